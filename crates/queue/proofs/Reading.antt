-- The reading order of two rows: the first of their seven words that differs decides, as it does of their messages.
use Rattle.std.specs.Prelude.{ℕ, zero, suc, ◌<◌, get_or, ◌≡◌, refl, Bool, true, false, List, [], ◌∷◌, length, take}
use Rattle.std.proofs.Common.{ap, ◌∙◌, sym, arith, rules, zero-le, suc-le-suc, le_of_suc-le-suc, not-suc-le-zero, get_or-take, length-take}
use Rattle.std.proofs.lemmas.List.{same_lists, ext_get_or, places}
use Rattle.std.proofs.lemmas.Bool.Decides.{nat_tests}
use Rattle.std.specs.Ordering.{nat_cmp, is_gt, is_eq, is_ne}
use Rattle.std.specs.declared.cmp.Ordering.{Ordering as Answer}
use Rattle.std.specs.declared.cmp.Ordering.TheVariants.{Less, Equal, Greater}
use Prim.Native.Nat.{compare, Ordering}
use Rattle.definition.specs.Lists.{or_else, compare_keys}
use Rattle.definition.specs.Message.{message_key}
use Rattle.definition.specs.State.{by_order}
use Rattle.laws.specs.Order.{compare_lt, compare_eq, compare_gt, eq_compare, keys_refl}
use Rattle.queue.specs.Rows.{message_of}
use Rattle.queue.specs.Queues.{reading_order}

abbrev pub answer : Ordering → Answer
answer o = by_order o Less Equal Greater

of_words : (x y : ℕ) → nat_cmp x y ≡ answer (compare x y)
of_words x y = go (compare x y) refl
  where
    go : (o : Ordering) → compare x y ≡ o → nat_cmp x y ≡ answer o
    go Ordering.lt e = let h = compare_lt x y e in grind (arith, nat_tests)
    go Ordering.eq e = let h = compare_eq x y e in grind (arith, nat_tests)
    go Ordering.gt e = let h = compare_gt x y e in grind (arith, nat_tests)

-- the first that differs decides
of_keys : (j : ℕ) (a b : List ℕ) → j < length a → j < length b → ((k : ℕ) → k < j → get_or a k 0 ≡ get_or b k 0) → is_ne (nat_cmp (get_or a j 0) (get_or b j 0)) ≡ true
    → nat_cmp (get_or a j 0) (get_or b j 0) ≡ answer (compare_keys a b)
unfolding compare_keys
of_keys j [] b h i f n = absurd (not-suc-le-zero h)
of_keys j (x ∷ a) [] h i f n = absurd (not-suc-le-zero i)
of_keys zero (x ∷ a) (y ∷ b) h i f n = of_words x y ∙ go (compare x y) (rw (← of_words x y) n)
  where
    go : (o : Ordering) → is_ne (answer o) ≡ true → answer o ≡ answer (or_else o (compare_keys a b))
    go Ordering.lt e = refl
    go Ordering.eq e = cc
    go Ordering.gt e = refl
of_keys (suc j) (x ∷ a) (y ∷ b) h i f n = of_keys j a b (le_of_suc-le-suc h) (le_of_suc-le-suc i) (λ k p. f (suc k) (suc-le-suc p)) n ∙ sym (rw (eq_compare x y (f 0 (suc-le-suc zero-le))))

seven : (a : List ℕ) → length a ≡ 8 → take 7 a ≡ message_key (message_of a)
seven a h = same_lists _ _ (search (rules, places)) (λ k d h. grind (arith, places))

module _ (a b : List ℕ) (h : length a ≡ 8) (i : length b ≡ 8) where
  order_is : compare_keys (take 7 a) (take 7 b) ≡ reading_order a b
  order_is = rw (seven a h, seven b i)

  pub by_word : (j : ℕ) → j < 7 → ((k : ℕ) → k < j → get_or a k 0 ≡ get_or b k 0) → is_ne (nat_cmp (get_or a j 0) (get_or b j 0)) ≡ true → nat_cmp (get_or a j 0) (get_or b j 0) ≡ answer (reading_order a b)
  by_word j l f n =
      let e : get_or (take 7 a) j 0 ≡ get_or a j 0 = get_or-take 7 a j 0 l in
      let g : get_or (take 7 b) j 0 ≡ get_or b j 0 = get_or-take 7 b j 0 l in
      rw (← e, ← g) (of_keys j (take 7 a) (take 7 b) (simp length-take (omega arith)) (simp length-take (omega arith))
      (λ k p. let q : k < 7 = omega arith in rw (get_or-take 7 a k 0 q, get_or-take 7 b k 0 q) (f k p)) (rw (e, g) n) ∙ ap answer order_is)

  pub by_none : ((k : ℕ) → k < 7 → get_or a k 0 ≡ get_or b k 0) → Equal ≡ answer (reading_order a b)
  by_none f =
      let e : take 7 a ≡ take 7 b = ext_get_or 0 (take 7 a) (take 7 b) (simp length-take (omega arith)) (λ k p. let q : k < 7 = omega (arith, length-take 7 a) in rw (get_or-take 7 a k 0 q, get_or-take 7 b k 0 q) (f k q)) in
      ap answer (sym (keys_refl (take 7 a)) ∙ rw (← e) at order_is)

-- ---- what an answer of `cmp` tells of the order

pub is_after : (o : Ordering) → is_gt (answer o) ≡ true → o ≡ Ordering.gt
is_after Ordering.lt e = cc
is_after Ordering.eq e = cc
is_after Ordering.gt e = refl

pub not_after : (o : Ordering) → is_gt (answer o) ≡ false → o ≡ Ordering.gt → ⊥
not_after o e f = let z : ◌≡◌ {A = Bool} true false = cc in let y : ◌≡◌ {A = ℕ} 0 1 = cc in omega arith

pub is_same : (o : Ordering) → is_eq (answer o) ≡ true → o ≡ Ordering.eq
is_same Ordering.lt e = cc
is_same Ordering.eq e = refl
is_same Ordering.gt e = cc

pub is_before : (o : Ordering) → (o ≡ Ordering.gt → ⊥) → is_eq (answer o) ≡ false → o ≡ Ordering.lt
is_before Ordering.lt f e = refl
is_before Ordering.eq f e = cc
is_before Ordering.gt f e = absurd (f refl)
