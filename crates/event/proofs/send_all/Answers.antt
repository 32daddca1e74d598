-- Each send has the ordinal of its place, and joins behind those before it.
use Rattle.std.proofs.Common.{arith, take, [], ◌∷◌, ◌∙◌, refl}
use Rattle.event.proofs.Sending.{sends_none, sends_more, sends_room, rule_sends}
use Rattle.event.proofs.Joining.{joined_none, joined_then}
use Rattle.event.proofs.send_all.Goals as goal

pub returns-then-rule-eq0 : goal.returns-then-rule-eq0
returns-then-rule-eq0 c = let a = c.args in record { joined = rw c.if-rule-eq0.true (rw (sends_none a.process a.time a.ordinal a.tally a.value) (joined_none _)); same_rows = (refl, refl) }

pub loop-i-init : goal.loop-i-init
loop-i-init c = let a = c.args in record { joined = rw (sends_none a.process a.time a.ordinal a.tally a.value) (joined_none _); same_rows = (refl, refl) }

pub send-requires : goal.send-requires
send-requires c =
    let a = c.args in
    let o = c.loop-i in
    let j = o.invariant.joined in
    let room = rw (← rule_sends a.rule c.ordinals.result c.ordinals.ensures) at c.requires.room in
    let more = sends_room a.process a.time a.tally a.value a.ordinal (take c.ordinals.result (a.rule.first ∷ a.rule.second ∷ [])) o.i (omega arith) in
    (omega (arith, room.0, j.mails, j.transit, more), omega (arith, room.1, j.sends, j.output, more))

pub loop-i-preserved : goal.loop-i-preserved
loop-i-preserved c =
    let a = c.args in
    let o = c.loop-i in
    let s = c.send.ensures in
    record {
      joined = rw (sends_more a.process a.time a.tally a.value a.ordinal (take c.ordinals.result (a.rule.first ∷ a.rule.second ∷ [])) o.i (omega arith)) (joined_then o.invariant.joined s.joined);
      same_rows = (s.same_rows.0 ∙ o.invariant.same_rows.0, s.same_rows.1 ∙ o.invariant.same_rows.1);
    }
