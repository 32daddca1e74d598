-- The call Execute of the definition, test by test, on any state that is not bad.
use Prim.Native.Nat.{ℕ, zero, suc, ◌+◌, ◌≤◌, ◌<◌}
use mathlib.Core.Path.{◌≡◌, refl, sym, ap, ap₂, ◌∙◌}
use mathlib.Core.Bool.{Bool, true, false, cond, not, ◌&&◌}
use mathlib.Core.List.{List, [], ◌∷◌, map}
use lib.Dec.{leb}
use lib.ListN.{length, length-append, length-map}
use borrow.Author.Tests.{le-leb, lt-leb}
use Rattle.definition.specs.declared.refusal.Refusal.{Refusal}
use Rattle.definition.specs.Answer.{refusal_number, refusal_not_0, Refused}
use Rattle.definition.specs.declared.Call.TheVariants.{Execute}
use Rattle.definition.specs.declared.Saved.{Saved}
use Rattle.definition.specs.Message.{Message, never}
use Rattle.definition.specs.State.{State, process, plus, reads_at, unread}
use Rattle.definition.specs.Calls.{Result, refuse, check, roomy, fits, work, executed, execute}
use Rattle.definition.specs.BadState.{bad, call}
use Rattle.lawful.specs.Changes.{worked, executed_here}
use Rattle.lawful.specs.Steps.{execution}
use Rattle.memory.specs.Keeping.{check_yes, check_no}
use Rattle.execute.specs.Plan.{room, refusal}

-- a refusal by this number, or the result where it is 0
abbrev by_number : ℕ → State → Result → Result
by_number zero s r = r
by_number (suc n) s r = refuse (suc n) s

two_tests : (a b : Bool) (s : State) (r : Result) → check a 6 s (check (not b) 7 s r) ≡ by_number (cond a 6 (cond b 0 7)) s r
unfolding check
two_tests true b s r = refl
two_tests false true s r = refl
two_tests false false s r = refl

module _ (s : State) (ok : bad s ≡ false) (p : ℕ) where
  pub not_in_model : length s.model ≤ p → call s (Execute p) ≡ refuse 1 s
  unfolding call execute
  not_in_model h = check_no (bad s) 16 s (execute s p) ok ∙ check_yes (leb (length s.model) p) 1 s _ (le-leb _ _ h)

  module _ (there : p < length s.model) (here : p < length s.processes) (few : length (process s p).input ≤ 64) where
    abbrev t : ℕ
    t = unread (process s p)

    abbrev sends : List Message
    sends = (work s p t).sends

    abbrev event : Saved
    event = record { time = t; read = length (reads_at t (process s p).input); stand = (work s p t).stand }

    abbrev number : ℕ
    number = refusal t (length sends) (length s.transit) (length (process s p).output) (length (process s p).history)

    roomy_is : roomy (worked t (process s p) (work s p t)) ≡ leb (length (process s p).output + length sends) 64 && leb (length (process s p).history + 1) 32
    roomy_is = rw (le-leb (length (process s p).input) 64 few, length-append (process s p).output sends, length-append (process s p).history (event ∷ []))

    fits_is : fits (executed s p t) p ≡ room (length sends) (length s.transit) (length (process s p).output) (length (process s p).history)
    unfolding executed
    fits_is = ap₂ ◌&&◌ (ap (λ (n : ℕ). leb n 128) (length-append s.transit (map plus sends) ∙ ap (λ (n : ℕ). length s.transit + n) (length-map sends plus))) (ap roomy (executed_here s p t here) ∙ roomy_is)

    execute_is : call s (Execute p) ≡ by_number number s (execution s p)
    unfolding call execute refusal
    execute_is =
        check_no (bad s) 16 s (execute s p) ok ∙ check_no (leb (length s.model) p) 1 s _ (lt-leb (length s.model) p there)
        ∙ ap (λ (b : Bool). check (leb never t) 6 s (check (not b) 7 s (execution s p))) fits_is ∙ two_tests (leb never t) (room (length sends) (length s.transit) (length (process s p).output) (length (process s p).history)) s (execution s p)

    pub refused : (r : Refusal) → refusal_number r ≡ number → (call s (Execute p)).answer ≡ Refused (refusal_number r)
    refused r e = go (refusal_number r) e (refusal_not_0 r)
      where
        go : (n : ℕ) → n ≡ number → (n ≡ 0 → ⊥) → (call s (Execute p)).answer ≡ Refused n
        go zero e h = absurd (h refl)
        go (suc n) e h = ap (λ (r : Result). r.answer) (execute_is ∙ ap (λ (k : ℕ). by_number k s (execution s p)) (sym e))

    pub accepted : number ≡ 0 → call s (Execute p) ≡ execution s p
    accepted e = execute_is ∙ ap (λ (k : ℕ). by_number k s (execution s p)) e
