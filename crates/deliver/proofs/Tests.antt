-- The call Deliver of the definition, test by test, on any state that is not bad.
use mathlib.Core.Path.{◌≡◌, refl, ap, ap₂, ◌∙◌}
use mathlib.Core.Bool.{Bool, true, false, not, ◌&&◌, ◌||◌}
use mathlib.Core.List.{List, map}
use Prim.Native.Nat.{ℕ, ◌+◌, ◌-◌, ◌≤◌, ◌<◌}
use native.Mathlib.Omega.{arith}
use lib.Dec.{leb, ltb}
use lib.ListN.{length, get_or, length-append, length-map, length-take, length-drop}
use borrow.Author.Tests.{le-leb, lt-leb}
use Rattle.definition.specs.Answer.{Delivered}
use Rattle.definition.specs.declared.Saved.{Saved}
use Rattle.definition.specs.declared.Call.TheVariants.{Deliver}
use Rattle.definition.specs.Message.{Message}
use Rattle.definition.specs.State.{Process, Mail, State, no_mail, process, before, from, sent_before, sent_from, minus, without}
use Rattle.definition.specs.Calls.{refuse, done, check, roomy, fits, rollback, met, deliver}
use Rattle.definition.specs.BadState.{bad, passes, ok_nets, call}
use Rattle.lawful.specs.Changes.{cut, cut_state, delivered_cut, delivered_here}
use Rattle.laws.specs.Tests.{length_keep}
use Rattle.memory.specs.Keeping.{check_yes, check_no}
use Rattle.deliver.specs.Plan.{arrival, room}

or_false : {a b : Bool} → a ≡ false → b ≡ false → a || b ≡ false
or_false {a} {b} e f = rw (e, f)

or_right : (a : Bool) {b : Bool} → b ≡ true → a || b ≡ true
or_right true e = refl
or_right false e = e

and_right : (b : Bool) → b && true ≡ b
and_right true = refl
and_right false = refl

without_length : (i : ℕ) (l : List Mail) → i < length l → length (without i l) ≡ length l - 1
without_length i l h = simp (length-append, length-take, length-drop) (omega arith)

module _ (s : State) (ok : bad s ≡ false) (i : ℕ) where
  pub not_there : length s.transit ≤ i → call s (Deliver i) ≡ refuse 5 s
  unfolding call deliver passes
  not_there h =
      let e : leb (length s.transit) i ≡ true = le-leb _ _ h in
      check_no (bad s || passes s i) 16 s (deliver s i) (or_false ok (rw e))
      ∙ check_yes (leb (length s.transit) i) 5 s _ e

  module _ (x : Mail) (h : i < length s.transit) (is : get_or s.transit i no_mail ≡ x) where
    abbrev p : ℕ
    p = x.message.receiver

    abbrev t : ℕ
    t = x.message.received

    abbrev pr : Process
    pr = process s p

    passes_is : passes s i ≡ not (ok_nets (arrival x pr))
    unfolding passes
    passes_is = rw (lt-leb (length s.transit) i h, is)

    pub too_far : ok_nets (arrival x pr) ≡ false → call s (Deliver i) ≡ refuse 16 s
    unfolding call
    too_far e = check_yes (bad s || passes s i) 16 s (deliver s i) (or_right (bad s) (rw (passes_is, e)))

    module _ (inside : p < length s.processes) (cuts : rollback t pr ≡ cut s x) (few_sends : length pr.output ≤ 64) (few_events : length pr.history ≤ 32)
        (nets : ok_nets (arrival x pr) ≡ true) where
      mails_after : length (cut_state s i x).transit ≡ length s.transit - 1 + length (sent_from t pr.output)
      mails_after =
          length-append (without i s.transit) (map minus (sent_from t pr.output))
          ∙ ap₂ ◌+◌ (without_length i s.transit h) (length-map (sent_from t pr.output) minus)

      roomy_after : roomy (met x (cut s x).kept) ≡ leb (length (arrival x pr)) 64
      roomy_after =
          let a : length (sent_before t pr.output) ≤ 64 = omega (arith, length_keep (λ (m : Message). ltb m.sent t) pr.output) in
          let b : length (before t pr.history) ≤ 32 = omega (arith, length_keep (λ (e : Saved). ltb e.time t) pr.history) in
          rw (le-leb _ 64 a, le-leb _ 32 b) (and_right (leb (length (arrival x pr)) 64))

      fits_is : fits (cut_state s i x) p ≡ room (length s.transit) x pr
      fits_is = ap₂ ◌&&◌ (ap (λ (n : ℕ). leb n 128) mails_after) (ap roomy (delivered_here s i x inside) ∙ roomy_after)

      pub deliver_is : call s (Deliver i) ≡ check (not (room (length s.transit) x pr)) 7 s (done (Delivered (length (from t pr.history)) (length (sent_from t pr.output))) (cut_state s i x))
      unfolding call deliver
      deliver_is =
          check_no (bad s || passes s i) 16 s (deliver s i) (or_false ok (rw (passes_is, nets)))
          ∙ check_no (leb (length s.transit) i) 5 s _ (lt-leb (length s.transit) i h)
          ∙ rw (is, delivered_cut s i x cuts, cuts, fits_is)
