-- A send that would pass the last usable time sends nothing, and any other one message.
use Rattle.std.proofs.Common.{sym, ap, ◌∙◌, arith, length}
use Rattle.event.proofs.Sending.{send_late, send_timely, send_row}
use Rattle.event.proofs.Joining.{joined_none}
use Rattle.event.proofs.send.Goals as goal

pub send-requires : goal.send-requires
send-requires c =
    let a = c.args in
    let one = ap length (send_timely a.process a.time a.ordinal a.tally a.value a.send (sym c.is_sent.ensures ∙ c.if-is_sent.true)) in
    (omega (arith, one, c.requires.0), omega (arith, one, c.requires.1))

pub returns-then-is_sent-clause-joined : goal.returns-then-is_sent-clause-joined
returns-then-is_sent-clause-joined c =
    let a = c.args in
    rw (send_row a.process a.time a.ordinal a.tally a.value a.send c.message.result c.sent_value-told.result (sym c.is_sent.ensures ∙ c.if-is_sent.true) c.sent_value-told.ensures c.message.ensures) c.send.ensures.joined

pub returns-else-is_sent-clause-joined : goal.returns-else-is_sent-clause-joined
returns-else-is_sent-clause-joined c = let a = c.args in rw (send_late a.process a.time a.ordinal a.tally a.value a.send (sym c.is_sent.ensures ∙ c.if-is_sent.false)) (joined_none _)
