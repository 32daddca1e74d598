use Rattle.std.proofs.Common.{arith}
use Rattle.rehearsal.specs.Moving.{first_moves, turn_moves, turn_onward}
use Rattle.states.proofs.rehearse.Goals as goal

pub tell-requires : goal.tell-requires
tell-requires g c = first_moves c.begin-first.ensures

pub tell-requires-in-loop-at : goal.tell-requires-in-loop-at
tell-requires-in-loop-at g c = turn_moves _ _ _ c.loop-at-test.true c.step-turn.ensures.prints

pub loop-at-smaller : goal.loop-at-smaller
loop-at-smaller g c =
    omega (arith, turn_onward _ _ _ c.loop-at-test.true c.step-turn.ensures.prints, c.in_ok-at-2.ensures)
