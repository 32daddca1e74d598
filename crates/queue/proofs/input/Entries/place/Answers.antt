-- The last row that is read before m settles it, since the queue is in order.
use Rattle.std.proofs.Common.{rules}
use Rattle.queue.proofs.Arrivals.{placed}
use Rattle.queue.proofs.input.Entries.place.Goals as goal

pub returns : goal.returns
returns c = placed c.args.self.now.rows.now c.args.m c.map_or.result c.args.self.now.order (search rules) (search rules) (search rules)
