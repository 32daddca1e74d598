use mathlib.Core.Path.{refl, sym, ◌∙◌}
use native.Mathlib.Omega.{arith}
use Rattle.run.proofs.Reading.{makes}
use Rattle.run.proofs.Running.{running_first, running_stop, running_again}
use Rattle.run.proofs.work.Goals as goal

pub loop-call-init : goal.loop-call-init
loop-call-init c = (running_first _ _ _ _ c.requires, (refl, refl, refl, refl, refl), refl, refl)

pub overflow_sub-answers : goal.overflow_sub-answers
overflow_sub-answers c = omega (arith, c.loop-call.invariant.0.few, c.loop-call.invariant.2)

pub overflow_sub-committed : goal.overflow_sub-committed
overflow_sub-committed c = omega (arith, c.loop-call.invariant.0.room, c.loop-call.invariant.3)

pub returns-clause-works : goal.returns-clause-works
returns-clause-works c =
    let o = c.loop-call in
    running_stop _ _ _ _ _ _ _ _ _ _ o.invariant.0 o.invariant.2 o.invariant.3 (sym c.turn_at.ensures ∙ c.in_default.is)

pub make-recorded-requires : goal.make-recorded-requires
make-recorded-requires c =
    let o = c.loop-call in
    let k = makes _ _ _ _ _ _ (sym c.turn_at.ensures ∙ c.in-Some.is) in record { ready = o.invariant.0.lawful_now; buffer_length_value = (cc k.buffer); place_in_bounds = (omega (arith, k.row), omega (arith, k.room_left)) }

pub loop-call-preserved : goal.loop-call-preserved
loop-call-preserved c =
    let o = c.loop-call in
    let s = c.make-recorded.ensures.same_lists in (
      running_again _ _ _ _ _ _ _ _ _ _ o.invariant.0 o.invariant.2 o.invariant.3 _ _ (sym c.turn_at.ensures ∙ c.in-Some.is) _ _ _ _ c.make-recorded.ensures.turned,
      (s.0 ∙ o.invariant.1.0, s.1 ∙ o.invariant.1.1, s.2 ∙ o.invariant.1.2, s.3 ∙ o.invariant.1.3, s.4 ∙ o.invariant.1.4),
      c.make-recorded.auto.answers ∙ o.invariant.2,
      c.make-recorded.auto.committed ∙ o.invariant.3,
    )

-- the row that is filled was there
pub overflow_add-calls : goal.overflow_add-calls
overflow_add-calls c =
    let o = c.loop-call in
    let again = running_again _ _ _ _ _ _ _ _ _ _ o.invariant.0 o.invariant.2 o.invariant.3 _ _ (sym c.turn_at.ensures ∙ c.in-Some.is) _ _ _ _ c.make-recorded.ensures.turned in
    omega (arith, again.few)

pub loop-call-smaller : goal.loop-call-smaller
loop-call-smaller c =
    let o = c.loop-call in
    let again = running_again _ _ _ _ _ _ _ _ _ _ o.invariant.0 o.invariant.2 o.invariant.3 _ _ (sym c.turn_at.ensures ∙ c.in-Some.is) _ _ _ _ c.make-recorded.ensures.turned in
    omega (arith, again.few, o.invariant.2)
