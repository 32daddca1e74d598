use Rattle.std.proofs.Common.{arith}
use Rattle.rehearsal.specs.Moving.{first_moves, turn_moves, turn_onward}
use Rattle.vectors.proofs.rehearse.Goals as goal

pub compare-requires : goal.compare-requires
compare-requires c = first_moves c.begin-first.ensures

pub compare-requires-in-loop-at : goal.compare-requires-in-loop-at
compare-requires-in-loop-at c = turn_moves _ _ _ c.loop-at-test.true c.step-turn.ensures.prints

pub loop-at-smaller : goal.loop-at-smaller
loop-at-smaller c =
    omega (arith, turn_onward _ _ _ c.loop-at-test.true c.step-turn.ensures.prints, c.in_ok-at-2.ensures)
