-- Laws of a number's decimal digits, for any number n of digits that may stand before the last: one digit, or those of the rest and a last;
-- and how many they are.
use Rattle.std.specs.Prelude.{◌≡◌, refl, Bool, true, false, List, [], ◌∷◌, ◌++◌, ℕ, zero, suc, ◌+◌, ◌*◌, ◌/◌, ◌%◌, ◌≤◌, ◌<◌, ltb, length}
use Rattle.std.proofs.Common.{sym, ap, ◌∙◌, arith, ltb-true, ltb-false, lt-ltb, le-ltb, length-append}
use Rattle.definition.specs.House.{largest}
use Rattle.definition.specs.Program.{digits}

-- with n digits before the last, the numbers below this are written
unfoldable pub capacity : ℕ → ℕ
capacity zero = 10
capacity (suc n) = 10 * capacity n

pub digits_one : (n k : ℕ) → k < 10 → digits (suc n) k ≡ (48 + k) ∷ []
unfolding digits
digits_one n k h = rw (lt-ltb k 10 h)

digits_last : (n k : ℕ) → 10 ≤ k → digits (suc n) k ≡ digits n (k / 10) ++ ((48 + k % 10) ∷ [])
unfolding digits
digits_last n k h = rw (le-ltb k 10 h)

pub digits_most : (n k : ℕ) → length (digits n k) ≤ suc n
unfolding digits
digits_most zero k = omega arith
digits_most (suc n) k = go (ltb k 10) refl (digits_most n (k / 10))
  where
    go : (b : Bool) → ltb k 10 ≡ b → length (digits n (k / 10)) ≤ suc n → length (digits (suc n) k) ≤ suc (suc n)
    go true e h = omega (arith, ap length (digits_one n k (ltb-true k 10 e)))
    go false e h = omega (arith, simp length-append at (ap length (digits_last n k (ltb-false k 10 e))))

-- a number that is written with n digits before the last is written so where one more may stand there
digits_enough : (n k : ℕ) → k < capacity n → digits (suc n) k ≡ digits n k
unfolding digits capacity
digits_enough zero k h = digits_one zero k h
digits_enough (suc n) k h = rw (digits_enough n (k / 10) (omega arith))

-- so the digits before the last are those of the number without it
pub digits_more : (k : ℕ) → k ≤ largest → 10 ≤ k → digits 9 k ≡ digits 9 (k / 10) ++ ((48 + k % 10) ∷ [])
unfolding capacity
digits_more k h l = digits_last 8 k l ∙ ap (λ (ds : List ℕ). ds ++ ((48 + k % 10) ∷ [])) (sym (digits_enough 8 (k / 10) (omega arith)))

-- and there is one more of them
pub digits_longer : (k : ℕ) → k ≤ largest → 10 ≤ k → length (digits 9 k) ≡ length (digits 9 (k / 10)) + 1
digits_longer k h l = ap length (digits_more k h l) ∙ length-append (digits 9 (k / 10)) ((48 + k % 10) ∷ [])
