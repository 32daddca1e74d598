-- What a reading gave was made of something, or it was a fault; and the `?` that meets the fault leaves by it, whatever the rows hold by then.
use Rattle.std.specs.Prelude.{◌≡◌, ℕ, List, length, Result, IsErr, IsErrAnd}
use Rattle.std.proofs.Common.{sym, ◌∙◌}
use Rattle.std.proofs.lemmas.Result.{err_from_is_err_and}
use Rattle.definition.specs.declared.refusal.Fault.{Fault as Refused_at}
use Rattle.definition.specs.Answer.{refusal_number}
use Rattle.definition.specs.ModelBytes.{Parsed, Got, Fault, mapped}
use Rattle.field.specs.Gives.{no_fault}
use Rattle.model.specs.Stored.{Reads}

pub made : {A B : Type 0} (f : A → B) (p : Parsed A) {b : B} {next : ℕ} → mapped f p ≡ Got b next → (a : A) × (p ≡ Got a next) × (f a ≡ b)
made f (Got a next) e = (a, (cc), (cc))
made f (Fault n at) e = no_fault e

pub made_fault : {A B : Type 0} (f : A → B) (p : Parsed A) {n at : ℕ} → mapped f p ≡ Fault n at → p ≡ Fault n at
made_fault f (Got a next) e = no_fault (sym e)
made_fault f (Fault n at) e = cc

pub leaves : {A B : Type 0} {size : A → ℕ} {put : A → List B → List B} {p : Parsed A} {before after : List B} {r : Result (ℕ × ℕ) Refused_at} (f : Refused_at)
    → IsErr r × IsErrAnd r (λ g. g ≡ f) → p ≡ Fault (refusal_number f.refusal) f.at → length after ≡ length before → Reads size put p before after r
leaves {r = r} f (e, h) d k =
    let w = err_from_is_err_and r h in
    record { answer = rw (w.1, w.2, d); kept = k; stored = λ a next x. no_fault (sym d ∙ x) }
