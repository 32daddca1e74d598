-- By whether it is sent.
use Rattle.std.proofs.Common.{length, sym, ap, ◌∙◌}
use Rattle.event.proofs.Sending.{send_late, send_timely}
use Rattle.event.proofs.sent_by.Goals as goal

pub returns-then-is_sent : goal.returns-then-is_sent
returns-then-is_sent c = λ p o y v. sym (ap length (send_timely p c.args.time o y v c.args.send (sym c.is_sent.ensures ∙ c.if-is_sent.true)))

pub returns-else-is_sent : goal.returns-else-is_sent
returns-else-is_sent c = λ p o y v. sym (ap length (send_late p c.args.time o y v c.args.send (sym c.is_sent.ensures ∙ c.if-is_sent.false)))
