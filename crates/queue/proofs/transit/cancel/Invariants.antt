-- The loop holds that the antimessages of j rows have joined.
use Rattle.std.proofs.Common.{◌≡◌, ◌++◌, ◌+◌, map, take}
use Rattle.definition.specs.State.{minus}
use Rattle.queue.specs.Rows.{message_of, mails}
use Rattle.queue.proofs.transit.cancel.Given as goal

abbrev pub invariant-loop-j : goal.invariant-loop-j
invariant-loop-j l = mails l.tr (l.n + l.j) ≡ mails l.initial.tr l.n ++ map minus (map message_of (take l.j l.cancelled))
