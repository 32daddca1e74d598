-- What an answer of the code says of the reading that it answers; the proofs of the readers are made of these, step by step.
use Rattle.std.specs.Prelude.{◌≡◌, ℕ, Result, Ok, Err}
use Rattle.std.proofs.Common.{sym, ap, ◌∙◌}
use Rattle.definition.specs.declared.refusal.Fault.{Fault as Refused_at}
use Rattle.definition.specs.Answer.{refusal_number, parsed, one_parsed}
use Rattle.definition.specs.ModelBytes.{Parsed, Got, Fault}

-- the answer is settled by what it says
pub one_answer : (r s : Result (ℕ × ℕ) Refused_at) → parsed r ≡ parsed s → r ≡ s
one_answer = one_parsed

-- the answer x to the reading p is y
pub read : {A R : Type 0} (told : R → Parsed A) {x y : R} {p : Parsed A} → told x ≡ p → x ≡ y → p ≡ told y
read told e g = sym e ∙ ap told g

-- so, where it gives something; and where it is a fault
pub got : {A : Type 0} {r : Result (A × ℕ) Refused_at} {p : Parsed A} {x : A × ℕ} → parsed r ≡ p → r ≡ Ok x → p ≡ Got x.0 x.1
got e g = read parsed e g

pub lost : {A : Type 0} {r : Result (A × ℕ) Refused_at} {p : Parsed A} {f : Refused_at} → parsed r ≡ p → r ≡ Err f → p ≡ Fault (refusal_number f.refusal) f.at
lost e g = read parsed e g
