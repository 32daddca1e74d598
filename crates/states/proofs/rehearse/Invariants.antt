-- Each turn goes on in the run file, so the turns end.
use Rattle.std.proofs.Common.{length, ◌-◌}
use Rattle.states.proofs.rehearse.Given as goal

abbrev pub decreases-loop-at : goal.decreases-loop-at
decreases-loop-at g l = length l.bytes - l.at
