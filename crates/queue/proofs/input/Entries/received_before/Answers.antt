-- The rows before the first that is not before t are as many as the chain counts.
use Rattle.std.proofs.Common.{rules}
use Rattle.queue.proofs.Cuts.{received_parted}
use Rattle.queue.proofs.input.Entries.received_before.Goals as goal

pub returns : goal.returns
returns c = received_parted c.args.self.now.rows.now c.args.t c.count.result c.args.self.now.order (search rules)
