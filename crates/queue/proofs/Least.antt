-- The least of the receive times that count: the unread time of a queue that is in order is that of the first row that is unread; and the least
-- receive time in transit.
use Rattle.std.specs.Prelude.{ℕ, zero, suc, ◌≡◌, refl, Bool, true, false, cond, List, [], ◌∷◌, ◌≤◌, ◌<◌, ◌⊎◌, min, map, length, get_or, Option, None, Some}
use Rattle.std.proofs.Common.{sym, ◌∙◌, arith, inl, inr, zero-le, suc-le-suc, le_of_suc-le-suc, not-suc-le-zero}
use Rattle.std.specs.List.{find}
use Rattle.std.specs.Option.{MatchOption, option_map}
use denote.Ref.{Bor}
use Rattle.definition.specs.Message.{never}
use Rattle.definition.specs.State.{Entry, unread_after}
use Rattle.definition.specs.Calls.{least_mail}
use Rattle.laws.specs.Rising.{Rising, rising_tail}
use Rattle.queue.specs.Rows.{entry_of, mail_of}
use Rattle.queue.specs.Queues.{received_at, is_unread}

module _ (t : ℕ) where
  unread_cons : (e : Entry) (l : List Entry) → unread_after t (e ∷ l) ≡ cond (is_unread t e) (min e.message.received (unread_after t l)) (unread_after t l)
  unfolding unread_after
  unread_cons e l = refl

  unread_none : unread_after t [] ≡ never
  unfolding unread_after
  unread_none = refl

  -- no unread time is below every receive time
  bounded : (x : ℕ) (l : List Entry) → x ≤ never → ((k : ℕ) → k < length l → x ≤ received_at (get_or l k (entry_of []))) → x ≤ unread_after t l
  bounded x [] h f = rw unread_none h
  bounded x (e ∷ l) h f = rw (unread_cons e l) (go (is_unread t e) (f 0 (suc-le-suc zero-le)) (bounded x l h (λ k p. f (suc k) (suc-le-suc p))))
    where
      go : (b : Bool) → x ≤ e.message.received → x ≤ unread_after t l → x ≤ cond b (min e.message.received (unread_after t l)) (unread_after t l)
      go true u v = omega arith
      go false u v = v

  abbrev passes : List ℕ → Bool
  passes r = is_unread t (entry_of r)

  pub unread_first : (q : List (List ℕ)) → Rising received_at (entry_of []) (map entry_of q) → (o : Option (Bor (List ℕ))) (x : ℕ) → option_map (λ (b : Bor (List ℕ)). b.now) o ≡ find passes q
      → MatchOption o (x ≡ never) (λ b. x ≡ get_or b.now 0 0) → x ≤ never → x ≡ unread_after t (map entry_of q)
  unread_first [] r None x e m f = m ∙ sym unread_none
  unread_first [] r (Some b) x e m f = cc
  unread_first (y ∷ q) r o x e m f = go (passes y) refl (λ h. unread_first q (rising_tail received_at (entry_of []) (entry_of y) (map entry_of q) r) o x h m f)
    where
      first : (o : Option (Bor (List ℕ))) → option_map (λ (b : Bor (List ℕ)). b.now) o ≡ Some y → MatchOption o (x ≡ never) (λ b. x ≡ get_or b.now 0 0) → x ≡ get_or y 0 0
      first None e m = cc
      first (Some b) e m = let z : b.now ≡ y = cc in m ∙ rw z

      go : (b : Bool) → passes y ≡ b → (option_map (λ (b : Bor (List ℕ)). b.now) o ≡ find passes q → x ≡ unread_after t (map entry_of q)) → x ≡ unread_after t (map entry_of (y ∷ q))
      go true k ih =
          let h : x ≡ get_or y 0 0 = first o (e ∙ rw k) m in
          let u : x ≤ unread_after t (map entry_of q) = bounded x (map entry_of q) f (λ j p. rw h (r 0 (suc j) zero-le (suc-le-suc p))) in
          let v : min (get_or y 0 0) (unread_after t (map entry_of q)) ≡ x = omega arith in
          sym (unread_cons (entry_of y) (map entry_of q) ∙ rw (k, v))
      go false k ih = ih (e ∙ rw k) ∙ sym (unread_cons (entry_of y) (map entry_of q) ∙ rw k)

-- ---- the least receive time in transit

low : (x : ℕ) (q : List (List ℕ)) → x ≤ never → ((k : ℕ) → k < length q → x ≤ get_or (get_or q k []) 0 0) → x ≤ least_mail (map mail_of q)
unfolding least_mail
low x [] h f = h
low x (r ∷ q) h f = let u = low x q h (λ k p. f (suc k) (suc-le-suc p)) in let v = f 0 (suc-le-suc zero-le) in omega arith

high : (q : List (List ℕ)) (k : ℕ) → k < length q → least_mail (map mail_of q) ≤ get_or (get_or q k []) 0 0
unfolding least_mail
high [] k h = absurd (not-suc-le-zero h)
high (r ∷ q) zero h = omega arith
high (r ∷ q) (suc k) h = let u = high q k (le_of_suc-le-suc h) in omega arith

top : (q : List (List ℕ)) → least_mail (map mail_of q) ≤ never
unfolding least_mail
top [] = omega arith
top (r ∷ q) = let u = top q in omega arith

pub least_is : (q : List (List ℕ)) (x : ℕ) → x ≤ never → ((k : ℕ) → k < length q → x ≤ get_or (get_or q k []) 0 0) → (x ≡ never) ⊎ ((k : ℕ) × (k < length q) × (x ≡ get_or (get_or q k []) 0 0))
    → x ≡ least_mail (map mail_of q)
least_is q x h f (inl e) = let u = low x q h f in let v = top q in omega arith
least_is q x h f (inr (k, i, e)) = let u = low x q h f in let v = high q k i in omega arith
