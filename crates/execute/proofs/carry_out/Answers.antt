-- What the event does by the rows that it may read is what it does by the queue.
use Rattle.std.proofs.Common.{arith, rules, length-take}
use Rattle.memory.specs.Memory.{number}
use Rattle.execute.proofs.Reading.{readable, event_is}
use Rattle.execute.proofs.carry_out.Goals as goal

pub perform-requires-clause-readable : goal.perform-requires-clause-readable
perform-requires-clause-readable c =
    let r = c.requires.sound in
    let g = c.requires.going in
    rw g.event (readable g.from (omega (arith, r.inputs, length-take (number c.args.own.now 0) c.args.q.now)) (omega (arith, g.usable)) r.order)

pub perform-requires-clause-room : goal.perform-requires-clause-room
perform-requires-clause-room c = let g = c.requires.going in rw (g.event, g.before, event_is g.from c.args.rules.now c.args.process _) (search rules)

pub with_counts-requires : goal.with_counts-requires
with_counts-requires c =
    let g = c.requires.going in
    let joined = rw (g.event, g.before, event_is g.from c.args.rules.now c.args.process _) at c.perform.ensures.joined in
    (omega (arith, c.requires.sound.inputs, length-take (number c.args.own.now 0) c.args.q.now), omega (arith, joined.sends, g.sent, g.outputs), omega arith)

pub returns : goal.returns
returns c =
    let g = c.requires.going in
    let joined = rw (g.event, g.before, event_is g.from c.args.rules.now c.args.process _) at c.perform.ensures.joined in
    search rules
