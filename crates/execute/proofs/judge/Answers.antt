-- What the event comes to by the rows that it may read is what it comes to by the queue, whichever the process; its counts are within bounds.
use Rattle.std.proofs.Common.{arith, rules, length-take}
use Rattle.std.proofs.lemmas.Grind.{common_steps}
use Rattle.memory.specs.Memory.{number}
use Rattle.execute.specs.Plan.{refusal}
use Rattle.execute.proofs.Reading.{readable, comes_to}
use Rattle.execute.proofs.judge.Goals as goal

pub outcome-end-requires : goal.outcome-end-requires
outcome-end-requires c = let r = c.requires in readable (rw c.new-entries.ensures at c.received_before-from.ensures) (omega (arith, r.inputs, length-take (number c.args.own.now 0) c.args.q.now)) (omega arith) r.order

pub overflow_add-mails : goal.overflow_add-mails
overflow_add-mails c = omega (arith, (c.outcome-end.ensures 0).within.sent, c.requires.mail)

pub overflow_cast-read : goal.overflow_cast-read
overflow_cast-read c = omega (arith, (c.outcome-end.ensures 0).within.read)

pub returns-then-mails-sent-gt-TRANSIT : goal.returns-then-mails-sent-gt-TRANSIT
unfolding refusal
returns-then-mails-sent-gt-TRANSIT c = λ p. let parted = rw c.new-entries.ensures at c.received_before-from.ensures in let h = comes_to parted c.args.rules.now _ _ c.outcome-end.ensures p in grind (arith, common_steps)

pub returns : goal.returns
returns c = λ p. let parted = rw c.new-entries.ensures at c.received_before-from.ensures in let h = comes_to parted c.args.rules.now _ _ c.outcome-end.ensures p in search rules
