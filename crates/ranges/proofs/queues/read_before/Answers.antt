use Rattle.std.proofs.Common.{ap, ◌∙◌}
use Rattle.std.specs.Ordering.{is_lt}
use Rattle.queue.specs.Queues.{reading_order}
use Rattle.ranges.proofs.Rows.{less_by_order}
use Rattle.ranges.proofs.queues.read_before.Goals as goal

pub returns : goal.returns
returns c = c.is_lt.ensures ∙ ap is_lt c.compare.ensures ∙ less_by_order (reading_order c.args.a.now c.args.b.now)
