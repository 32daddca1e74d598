-- By the count of sends.
use Rattle.std.proofs.Common.{arith, length, length-append, [], ◌∷◌, ◌+◌, refl, ap, ◌∙◌}
use Rattle.definition.specs.Model.{send_all}
use Rattle.event.proofs.Sending.{sends_cons, sends_none, counted_few, both_sends}
use Rattle.event.proofs.sends.Goals as goal

pub returns-then-rule-eq0 : goal.returns-then-rule-eq0
returns-then-rule-eq0 c = let a = c.args in λ p o y v. rw c.if-rule-eq0.true (rw (sends_none p a.time o y v) refl)

pub returns-then-rule-eq1 : goal.returns-then-rule-eq1
returns-then-rule-eq1 c = rw c.if-rule-eq1.true c.sent_by-first.ensures

pub overflow_add-result : goal.overflow_add-result
overflow_add-result c =
    let a = c.args in
    omega (arith, counted_few a.time (a.rule.first ∷ []) _ c.sent_by-first.ensures, counted_few a.time (a.rule.second ∷ []) _ c.sent_by.ensures)

pub returns : goal.returns
returns c =
    let a = c.args in
    rw (both_sends a.rule (omega (arith, c.if-rule-eq0.false, c.if-rule-eq1.false)))
    (λ p o y v. omega (
      arith,
      c.sent_by-first.ensures p o y v,
      c.sent_by.ensures p (o + 1) y v,
      ap length (sends_cons p a.time o y v a.rule.first (a.rule.second ∷ [])) ∙ length-append (send_all p a.time o y v (a.rule.first ∷ [])) (send_all p a.time (o + 1) y v (a.rule.second ∷ [])),
    ))
