-- Send times do not fall in a queue that is in order.
use Rattle.queue.proofs.Cuts.{sent_parted}
use Rattle.queue.proofs.output.sent_before.Goals as goal

pub returns : goal.returns
returns c = sent_parted c.args.o.now c.args.t c.below.result c.requires c.below.ensures
