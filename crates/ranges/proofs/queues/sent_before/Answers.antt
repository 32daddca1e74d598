-- `<` of two pairs is the order of keys of two numbers.
use Rattle.std.proofs.Common.{◌∙◌}
use Rattle.laws.specs.Checks.{pair_before}
use Rattle.queue.specs.Rows.{message_of}
use Rattle.ranges.proofs.queues.sent_before.Goals as goal

pub returns : goal.returns
returns c =
    let m = message_of c.args.a.now in
    let k = message_of c.args.b.now in
    c.lt.ensures ∙ pair_before m.sent m.ordinal k.sent k.ordinal
