-- `vectors::read` is safe and ends: what was read stays within the bytes, and each read that gives something leaves less room.
use Rattle.std.proofs.Common.{length, ◌-◌, ◌≤◌}
use Rattle.vectors.proofs.read.Given as goal

abbrev pub invariant-loop-size : goal.invariant-loop-size
invariant-loop-size g l = l.size ≤ length l.bytes

abbrev pub decreases-loop-size : goal.decreases-loop-size
decreases-loop-size g l = length l.initial.bytes - l.size
