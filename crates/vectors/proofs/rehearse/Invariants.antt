-- `vectors::rehearse` is safe and ends: the next call stands further on after each turn.
use Rattle.std.proofs.Common.{length, ◌-◌}
use Rattle.vectors.proofs.rehearse.Given as goal

abbrev pub decreases-loop-at : goal.decreases-loop-at
decreases-loop-at l = length l.bytes - l.at
