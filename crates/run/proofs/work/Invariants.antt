-- `run::work` meets its contract. The loop's invariant: the memory, the rows and the record are those of the calls made so far, and with the calls that
-- are still made from here on these are all; the lists keep their lengths. The measure is the number of rows that are left.
use mathlib.Core.Path.{◌≡◌}
use Prim.Native.Nat.{◌-◌}
use lib.ListN.{length}
use Rattle.memory.specs.Lent.{said, SameLists}
use Rattle.run.proofs.Running.{Running}
use Rattle.run.proofs.work.Given as goal

abbrev pub invariant-loop-call : goal.invariant-loop-call
invariant-loop-call l =
    Running l.bytes (said l.initial.m) l.initial.answers l.initial.committed (said l.m) l.answers l.committed l.calls l.next l.recorded
    × SameLists l.m l.initial.m
    × (length l.answers ≡ length l.initial.answers) × (length l.committed ≡ length l.initial.committed)

abbrev pub decreases-loop-call : goal.decreases-loop-call
decreases-loop-call l =
    length l.answers - l.calls
