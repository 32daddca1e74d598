-- The loop holds that what is left leads to what the whole event does; a row received later than the event ends it, since the queue is in order.
use Rattle.std.proofs.Common.{ℕ}
use Rattle.event.specs.Event.{Within}
use Rattle.event.proofs.Walks.{Left}
use Rattle.event.proofs.outcome.Given as goal

abbrev pub invariant-loop-row : goal.invariant-loop-row
invariant-loop-row l = record { within : Within l.row-index l.w; left : (p : ℕ) → Left l.rules l.rows p l.time l.fn.stand l.row-index l.w }
