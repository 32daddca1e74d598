-- The lines that are left.
use Rattle.std.proofs.Common.{length}
use Rattle.library_calls.proofs.listing.all.Given as goal

abbrev pub decreases-loop-marks : goal.decreases-loop-marks
decreases-loop-marks g l = length l.text
