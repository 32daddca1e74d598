-- What is written stays within the page.
use Rattle.std.proofs.Common.{◌≤◌}
use Rattle.states.proofs.page.Page.line.Given as goal

abbrev pub invariant-loop-byte : goal.invariant-loop-byte
invariant-loop-byte g l = l.end ≤ 65536

abbrev pub invariant-loop-number : goal.invariant-loop-number
invariant-loop-number g l = l.end ≤ 65536
