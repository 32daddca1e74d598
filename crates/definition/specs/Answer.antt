-- What the code answers, told by document 01's numbers and values: "If an answer is an enum, a definition gives this paper's number and values for
-- each of its cases". Each of these words is undone by another, so what is told settles the answer.
use Rattle.std.specs.Prelude.{◌≡◌, refl, List, [], ◌∷◌, ℕ, ◌-◌, get_or, Result, Ok, Err}
use Rattle.std.proofs.Common.{sym, ap, ◌∙◌, arith}
use Rattle.definition.specs.declared.refusal.Refusal.{Refusal}
use Rattle.definition.specs.declared.refusal.Refusal.TheVariants.{BadArgument, AlreadyHave, Gap, TooLate, NothingThere, Idle, NoRoom, ShortBuffer, Cut, Overlong, TooBig, OutOfRange, OutOfOrder, Trailing, TooLong, BadState}
use Rattle.definition.specs.declared.refusal.Fault.{Fault as Refused_at}
use Rattle.definition.specs.declared.Answer.{Answer as Given}
use Rattle.definition.specs.declared.Answer.TheVariants.{Started as GivenStart, Injected as GivenInject, Delivered as GivenDeliver, Executed as GivenExecute, Advanced as GivenAdvance}
use Rattle.definition.specs.House.{Number, Read, Fault as NumberFault}
use Rattle.definition.specs.ModelBytes.{Parsed, Got, Fault}

-- ---- refusals

-- "Refusal numbers"
abbrev pub refusal_number : Refusal → ℕ
refusal_number BadArgument = 1
refusal_number AlreadyHave = 2
refusal_number Gap = 3
refusal_number TooLate = 4
refusal_number NothingThere = 5
refusal_number Idle = 6
refusal_number NoRoom = 7
refusal_number ShortBuffer = 8
refusal_number Cut = 9
refusal_number Overlong = 10
refusal_number TooBig = 11
refusal_number OutOfRange = 12
refusal_number OutOfOrder = 13
refusal_number Trailing = 14
refusal_number TooLong = 15
refusal_number BadState = 16

-- 0 is the number of none
pub refusal_not_0 : (r : Refusal) → refusal_number r ≡ 0 → ⊥
refusal_not_0 BadArgument e = omega (arith, e)
refusal_not_0 AlreadyHave e = omega (arith, e)
refusal_not_0 Gap e = omega (arith, e)
refusal_not_0 TooLate e = omega (arith, e)
refusal_not_0 NothingThere e = omega (arith, e)
refusal_not_0 Idle e = omega (arith, e)
refusal_not_0 NoRoom e = omega (arith, e)
refusal_not_0 ShortBuffer e = omega (arith, e)
refusal_not_0 Cut e = omega (arith, e)
refusal_not_0 Overlong e = omega (arith, e)
refusal_not_0 TooBig e = omega (arith, e)
refusal_not_0 OutOfRange e = omega (arith, e)
refusal_not_0 OutOfOrder e = omega (arith, e)
refusal_not_0 Trailing e = omega (arith, e)
refusal_not_0 TooLong e = omega (arith, e)
refusal_not_0 BadState e = omega (arith, e)

in_order : List Refusal
in_order =
    BadArgument ∷ AlreadyHave ∷ Gap ∷ TooLate ∷ NothingThere ∷ Idle ∷ NoRoom ∷ ShortBuffer ∷ Cut ∷ Overlong ∷ TooBig ∷ OutOfRange ∷ OutOfOrder ∷ Trailing ∷ TooLong ∷ BadState ∷ []

numbered : ℕ → Refusal
unfolding in_order
numbered n = get_or in_order (n - 1) BadState

refusal_back : (r : Refusal) → numbered (refusal_number r) ≡ r
unfolding numbered
refusal_back BadArgument = refl
refusal_back AlreadyHave = refl
refusal_back Gap = refl
refusal_back TooLate = refl
refusal_back NothingThere = refl
refusal_back Idle = refl
refusal_back NoRoom = refl
refusal_back ShortBuffer = refl
refusal_back Cut = refl
refusal_back Overlong = refl
refusal_back TooBig = refl
refusal_back OutOfRange = refl
refusal_back OutOfOrder = refl
refusal_back Trailing = refl
refusal_back TooLong = refl
refusal_back BadState = refl

pub one_refusal : (r s : Refusal) → refusal_number r ≡ refusal_number s → r ≡ s
one_refusal r s e = sym (refusal_back r) ∙ ap numbered e ∙ refusal_back s

-- ---- what is read of bytes

-- a house number with the place of the next one, or its fault
abbrev pub number_in : Result (ℕ × ℕ) Refusal → Number
number_in (Ok x) = Read x.0 x.1
number_in (Err r) = NumberFault (refusal_number r)

number_out : Number → Result (ℕ × ℕ) Refusal
number_out (Read v next) = Ok (v, next)
number_out (NumberFault n) = Err (numbered n)

number_back : (r : Result (ℕ × ℕ) Refusal) → number_out (number_in r) ≡ r
unfolding number_out
number_back (Ok x) = refl
number_back (Err r) = ap Err (refusal_back r)

pub one_number : (r s : Result (ℕ × ℕ) Refusal) → number_in r ≡ number_in s → r ≡ s
one_number r s e = sym (number_back r) ∙ ap number_out e ∙ number_back s

-- anything with the place of the next, or "the refusal's number and its offset"
abbrev pub parsed : {A : Type 0} → Result (A × ℕ) Refused_at → Parsed A
parsed (Ok x) = Got x.0 x.1
parsed (Err f) = Fault (refusal_number f.refusal) f.at

parsed_out : {A : Type 0} → Parsed A → Result (A × ℕ) Refused_at
parsed_out (Got a next) = Ok (a, next)
parsed_out (Fault n at) = Err (record { refusal = numbered n; at = at })

parsed_back : {A : Type 0} (r : Result (A × ℕ) Refused_at) → parsed_out (parsed r) ≡ r
unfolding parsed_out
parsed_back (Ok x) = refl
parsed_back (Err f) = ap (λ (r : Refusal). Err (record { refusal = r; at = f.at })) (refusal_back f.refusal)

pub one_parsed : {A : Type 0} (r s : Result (A × ℕ) Refused_at) → parsed r ≡ parsed s → r ≡ s
one_parsed r s e = sym (parsed_back r) ∙ ap parsed_out e ∙ parsed_back s

-- ---- what a call answers

-- "A refusal returns its number"; a call that is not refused gives its values
pub data Answer : Type 0 where
  Refused : ℕ → Answer
  Started : Answer
  Injected : Answer
  Delivered : ℕ → ℕ → Answer
  Executed : ℕ → ℕ → ℕ → Answer
  Advanced : ℕ → ℕ → ℕ → Answer

abbrev pub answer_of : Result Given Refusal → Answer
answer_of (Ok GivenStart) = Started
answer_of (Ok GivenInject) = Injected
answer_of (Ok (GivenDeliver undone cancelled)) = Delivered undone cancelled
answer_of (Ok (GivenExecute time read sent)) = Executed time read sent
answer_of (Ok (GivenAdvance horizon entries bytes)) = Advanced horizon entries bytes
answer_of (Err r) = Refused (refusal_number r)

answer_out : Answer → Result Given Refusal
answer_out (Refused n) = Err (numbered n)
answer_out Started = Ok GivenStart
answer_out Injected = Ok GivenInject
answer_out (Delivered undone cancelled) = Ok (GivenDeliver undone cancelled)
answer_out (Executed time read sent) = Ok (GivenExecute time read sent)
answer_out (Advanced horizon entries bytes) = Ok (GivenAdvance horizon entries bytes)

answer_back : (a : Result Given Refusal) → answer_out (answer_of a) ≡ a
unfolding answer_out
answer_back (Ok GivenStart) = refl
answer_back (Ok GivenInject) = refl
answer_back (Ok (GivenDeliver undone cancelled)) = refl
answer_back (Ok (GivenExecute time read sent)) = refl
answer_back (Ok (GivenAdvance horizon entries bytes)) = refl
answer_back (Err r) = ap Err (refusal_back r)

pub one_answer : (a b : Result Given Refusal) → answer_of a ≡ answer_of b → a ≡ b
one_answer a b e = sym (answer_back a) ∙ ap answer_out e ∙ answer_back b
