use Rattle.std.proofs.Common.{arith}
use Rattle.rehearsal.specs.Moving.{first_moves, turn_moves, turn_onward}
use Rattle.rehearse.proofs.rehearse.Goals as goal

pub put-requires : goal.put-requires
put-requires g c = (first_moves c.begin-first.ensures).end

pub put-requires-in-loop-at : goal.put-requires-in-loop-at
put-requires-in-loop-at g c = (turn_moves _ _ _ c.loop-at-test.true c.step-turn.ensures.prints).end

pub loop-at-smaller : goal.loop-at-smaller
loop-at-smaller g c =
    omega (arith, turn_onward _ _ _ c.loop-at-test.true c.step-turn.ensures.prints, c.in_ok-at-2.ensures.onward)
