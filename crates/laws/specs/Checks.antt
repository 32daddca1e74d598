-- What a check of rows answers by the library's `all` and `is_sorted_by`, in the words of document 01: each row says a thing, and the things pass a
-- test, in strict order of their keys. And what `<` answers of two pairs of numbers.
use Rattle.std.specs.Prelude.{◌≡◌, Bool, cond, eqb, ◌&&◌, ℕ, zero, suc, ◌+◌, ◌<◌, ltb, length, get_or, Some}
use Rattle.std.specs.Ordering.{partial_lt, partial_ordering_then, nat_cmp, is_lt}
use Rattle.std.specs.List.{list_all, range_with_len, AllAdjacentBelow, IsAllAdjacentAnswer}
use Rattle.std.proofs.Math.Path.{refl}
use Rattle.std.proofs.Common.{Less, Equal, Greater, sym, ◌∙◌, ap, arith, add-one, lt-ltb, le-ltb, eq-eqb, ne_eqb}
use Rattle.std.proofs.Math.Bool.{true, false}
use mathlib.Core.List.{List, [], ◌∷◌, map}
use Rattle.definition.specs.Lists.{all, compare_keys, compare, is_less, in_order}
use Rattle.std.proofs.lemmas.Bool.{false≢true, true≢false}
use Rattle.laws.specs.Tests.{split}
use Rattle.laws.specs.Walks.{walked, less_first, more_first, less_second}

pub all_is : {A : Type 0} (f : A → Bool) (l : List A) → list_all f l ≡ all f l
unfolding all
all_is f [] = refl
all_is f (x ∷ l) = ap (λ (b : Bool). f x && b) (all_is f l)

-- a test of k, k + 1 .., n of them, and a function that recurses as it does
pub all_range : (f : ℕ → Bool) (F : ℕ → ℕ → Bool) → ((k : ℕ) → F k zero ≡ true) → ((k n : ℕ) → F k (suc n) ≡ f k && F (suc k) n) → (k n : ℕ) → list_all f (range_with_len k n) ≡ F k n
all_range f F none more k zero = sym (none k)
all_range f F none more k (suc n) = rw (add-one, all_range f F none more (suc k) n) (sym (more k n))

module _ {A B : Type 0} (said : A → B) where
  pub all_said : (f : B → Bool) (l : List A) → list_all (λ x. f (said x)) l ≡ all f (map said l)
  unfolding all
  all_said f [] = refl
  all_said f (x ∷ l) = ap (λ (b : Bool). f (said x) && b) (all_said f l)

  module _ (key : B → List ℕ) where
    -- the first says what stands before what the second says
    abbrev pub said_before : A → A → Bool
    said_before x y = is_less (compare key (said x) (said y))

    module _ (f : B → Bool) where
      -- the first stands before the second, and the second passes
      abbrev pub passes_after : A → A → Bool
      passes_after x y = said_before x y && f (said y)

      -- one of them does not pass, or does not stand after the one before it
      pass_fails : (l : List A) (k : ℕ) → k + 1 < length l → ((d : A) → false ≡ passes_after (get_or l k d) (get_or l (k + 1) d)) → false ≡ walked f key (map said l)
      unfolding all in_order
      pass_fails [] k i h = absurd (omega arith)
      pass_fails (x ∷ []) k i h = absurd (omega arith)
      pass_fails (x ∷ y ∷ l) zero i h = here (f (said x)) (f (said y)) (all f (map said l)) (said_before x y) _ (h x)
        where
          here : (a b c d e : Bool) → false ≡ d && b → false ≡ (a && (b && c)) && (d && e)
          here true true true true e h = absurd (false≢true h)
          here true true true false e h = refl
          here true true false d e h = refl
          here true false c d e h = refl
          here false b c d e h = refl
      pass_fails (x ∷ y ∷ l) (suc k) i h = later (f (said x)) (all f (map said (y ∷ l))) (said_before x y) _ (pass_fails (y ∷ l) k (omega arith) (λ d. rw add-one (rw add-one at (h d))))
        where
          later : (a b c d : Bool) → false ≡ b && d → false ≡ (a && b) && (c && d)
          later true true true true h = absurd (false≢true h)
          later true true true false h = refl
          later true true false d h = refl
          later true false c d h = refl
          later false b c d h = refl

      -- the first passes, and each of the others passes and stands after the one before it
      pass_holds : (x : A) (l : List A) → f (said x) ≡ true → AllAdjacentBelow (λ x y. true ≡ passes_after x y) (x ∷ l) (length (x ∷ l)) → true ≡ walked f key (map said (x ∷ l))
      unfolding all in_order
      pass_holds x [] e h = rw e refl
      pass_holds x (y ∷ l) e h =
          let t = both (said_before x y) (f (said y)) (h 0 x (omega arith)) in
          rw (e, t.0) (pass_holds y l t.1 (λ k d i. rw add-one (rw add-one at (h (suc k) d (omega arith)))))
        where
          both : (a b : Bool) → true ≡ a && b → (a ≡ true) × (b ≡ true)
          both true true h = (refl, refl)
          both true false h = absurd (true≢false h)
          both false b h = absurd (true≢false h)

      -- there is none
      pub pass_none : (l : List A) → length l ≡ 0 → true ≡ walked f key (map said l)
      unfolding all in_order
      pass_none [] e = refl
      pass_none (x ∷ l) e = absurd (omega arith)

      -- the first does not pass
      pub pass_stops : (d : A) (l : List A) → 0 < length l → f (said (get_or l 0 d)) ≡ false → false ≡ walked f key (map said l)
      unfolding all
      pass_stops d [] h e = absurd (omega arith)
      pass_stops d (x ∷ l) h e = rw e refl

      -- the first passes, and `is_sorted_by` answers of the others
      pub pass_ends : (d : A) (l : List A) (r : Bool) → 0 < length l → f (said (get_or l 0 d)) ≡ true → IsAllAdjacentAnswer (λ x y b. b ≡ passes_after x y) l r → r ≡ walked f key (map said l)
      pass_ends d [] r h e a = absurd (omega arith)
      pass_ends d (x ∷ l) true h e a = pass_holds x l e a
      pass_ends d (x ∷ l) false h e a = pass_fails (x ∷ l) a.0 a.1 a.2

pub pair_before : (a c b d : ℕ) → partial_lt (λ (x y : ℕ × ℕ). partial_ordering_then (Some (nat_cmp x.0 y.0)) (Some (nat_cmp x.1 y.1))) (a, c) (b, d) ≡ is_less (compare_keys (a ∷ c ∷ []) (b ∷ d ∷ []))
pair_before a c b d =
    split a b (λ h. rw (lt-ltb a b h) (less_first a c b d h))
    (λ h. split b a (λ k. rw (le-ltb a b h, ne_eqb a b (λ e. omega arith)) (more_first a c b d k))
    (λ k. rw (le-ltb a b h, eq-eqb a b (omega arith)) (second (ltb c d) (eqb c d) ∙ less_second a c b d h k)))
  where
    second : (less same : Bool) → is_lt (cond less Less (cond same Equal Greater)) ≡ less
    second true same = refl
    second false true = refl
    second false false = refl
