-- Each call stands further on than the one before.
use Rattle.std.proofs.Common.{length}
use Rattle.library_calls.proofs.listing.calls.Given as goal

abbrev pub decreases-loop-call : goal.decreases-loop-call
decreases-loop-call g l = length l.call
