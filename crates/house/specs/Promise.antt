-- What a function that writes bytes at a place of a lent buffer promises, for every buffer and every place in it or past its end: the answer, in
-- document 01's number and value, and the whole buffer afterwards. The promise admits one answer and one buffer.
use Rattle.std.specs.Prelude.{◌≡◌, Bool, cond, List, ℕ, ◌+◌, ◌≤◌, ◌<◌, leb, length, Result, Ok, Err}
use Rattle.std.proofs.Common.{sym, ap, ◌∙◌, le-leb}
use Rattle.std.proofs.lemmas.Bool.{lt-leb}
use Rattle.std.proofs.lemmas.List.Edits.{sets}
use Rattle.definition.specs.declared.refusal.Refusal.{Refusal}
use Rattle.definition.specs.declared.refusal.Refusal.TheVariants.{ShortBuffer}
use Rattle.definition.specs.Answer.{refusal_number, one_refusal, refusal_not_0}

-- an answer's number and value: 0 and the place after the bytes, or 8, ShortBuffer, and none
abbrev pub told : Result ℕ Refusal → ℕ × ℕ
told (Ok next) = (0, next)
told (Err r) = (refusal_number r, 0)

-- the bytes fit at the place
abbrev pub room : List ℕ → List ℕ → ℕ → Bool
room bytes before at = leb (at + length bytes) (length before)

-- they stand there and every other byte keeps its value; or they do not fit and every byte keeps its value
pub record Writes (bytes : List ℕ) (before : List ℕ) (at : ℕ) (answer : Result ℕ Refusal) (after : List ℕ) : Type 0 where
  pub said : told answer ≡ cond (room bytes before at) (0, at + length bytes) (8, 0)
  pub left : after ≡ cond (room bytes before at) (sets before at bytes) before

pub short_writes : (bytes : List ℕ) (before : List ℕ) (at : ℕ) → length before < at + length bytes → Writes bytes before at (Err ShortBuffer) before
short_writes bytes before at h = record { said = rw (lt-leb _ _ h); left = rw (lt-leb _ _ h) }

pub next_writes : (bytes : List ℕ) (before : List ℕ) (at next : ℕ) (after : List ℕ) → at + length bytes ≤ length before
    → next ≡ at + length bytes → after ≡ sets before at bytes → Writes bytes before at (Ok next) after
next_writes bytes before at next after h p q = record { said = rw (le-leb _ _ h, p); left = rw (le-leb _ _ h) q }

told_one : (r s : Result ℕ Refusal) → told r ≡ told s → r ≡ s
told_one (Ok a) (Ok b) e = ap (λ (x : ℕ × ℕ). Ok x.1) e
told_one (Ok a) (Err s) e = absurd (refusal_not_0 s (sym (ap (λ (x : ℕ × ℕ). x.0) e)))
told_one (Err r) (Ok b) e = absurd (refusal_not_0 r (ap (λ (x : ℕ × ℕ). x.0) e))
told_one (Err r) (Err s) e = ap Err (one_refusal r s (ap (λ (x : ℕ × ℕ). x.0) e))

pub one_answer : (bytes : List ℕ) (before : List ℕ) (at : ℕ) (r s : Result ℕ Refusal) (x y : List ℕ) → Writes bytes before at r x → Writes bytes before at s y → (r ≡ s) × (x ≡ y)
one_answer bytes before at r s x y p q = (told_one r s (p.said ∙ sym q.said), p.left ∙ sym q.left)
