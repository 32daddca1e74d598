-- The queue after an arrival, by where the message stands: new at its place, or one entry counted once more.
use Rattle.std.specs.Prelude.{ℕ, zero, suc, ◌≡◌, refl, Bool, true, false, cond, List, [], ◌∷◌, ◌++◌, ◌+◌, ◌-◌, ◌≤◌, ◌<◌, map, length, get_or, take, drop, pos, Ok, Err}
use Rattle.std.proofs.Common.{ap, sym, ◌∙◌, arith, add-one, zero-le, suc-le-suc, le_of_suc-le-suc, not-suc-le-zero, length-append, length-take, length-drop}
use Rattle.std.proofs.lemmas.List.{length-map}
use Rattle.std.proofs.Math.ListN.{get_or-map}
use Rattle.std.proofs.Math.Logic.{⊎_elim}
use Rattle.std.proofs.Math.Nat.{eq-or-lt_of_le}
use Rattle.std.specs.Ordering.{is_gt, is_eq}
use borrow.Author.Tests.{eq-eqb, ne_eqb}
use Prim.Native.Nat.{Ordering}
use Rattle.definition.specs.Lists.{compare, in_order}
use Rattle.definition.specs.Message.{Message, message_key}
use Rattle.definition.specs.State.{Entry, entry, entry_key, arrived, is_zero, counted}
use Rattle.laws.specs.Order.{keys_flip, keys_trans}
use Rattle.laws.specs.Places.{keys_turn}
use Rattle.laws.specs.Slices.{map_append, map_take, map_drop}
use Rattle.queue.specs.Rows.{message_of, entry_of, entries, with_last}
use Rattle.queue.specs.Queues.{reading_order, Placed, Found, Holds, count_at, moved, recounted, added}
use Rattle.queue.proofs.Nets.{net_new, net_moved, net_gone}
use Rattle.queue.proofs.Reading.{answer, is_after, not_after, is_same, is_before}
use Rattle.queue.proofs.Orders.{ascends}

-- ---- on entries

module _ (anti : Bool) (m : Message) where
  counted_lt : (e : Entry) (l : List Entry) → compare message_key m e.message ≡ Ordering.lt → counted anti m (e ∷ l) ≡ entry m (arrived anti (pos 0)) ∷ e ∷ l
  unfolding counted
  counted_lt e l h = rw h

  counted_eq : (e : Entry) (l : List Entry) → compare message_key m e.message ≡ Ordering.eq → counted anti m (e ∷ l) ≡ cond (is_zero (arrived anti e.net)) l (entry e.message (arrived anti e.net) ∷ l)
  unfolding counted
  counted_eq e l h = rw h

  counted_gt : (e : Entry) (l : List Entry) → compare message_key m e.message ≡ Ordering.gt → counted anti m (e ∷ l) ≡ e ∷ counted anti m l
  unfolding counted
  counted_gt e l h = rw h

  counted_none : counted anti m [] ≡ entry m (arrived anti (pos 0)) ∷ []
  unfolding counted
  counted_none = refl

  counted_new : (l : List Entry) (i : ℕ) → i ≤ length l → ((k : ℕ) → k < i → compare message_key m (get_or l k (entry_of [])).message ≡ Ordering.gt) → (i < length l → compare message_key m (get_or l i (entry_of [])).message ≡ Ordering.lt) → counted anti m l ≡ added anti i m l
  unfolding added
  counted_new [] i h f g = counted_none ∙ rw (let z : i ≡ 0 = omega arith in z)
  counted_new (e ∷ l) zero h f g = counted_lt e l (g (suc-le-suc zero-le))
  counted_new (e ∷ l) (suc i) h f g =
      counted_gt e l (f 0 (suc-le-suc zero-le))
      ∙ ap (λ (r : List Entry). e ∷ r) (counted_new l i (le_of_suc-le-suc h) (λ j p. f (suc j) (suc-le-suc p)) (λ p. g (suc-le-suc p)))

  counted_again : (l : List Entry) (i : ℕ) → i < length l → ((k : ℕ) → k < i → compare message_key m (get_or l k (entry_of [])).message ≡ Ordering.gt) → compare message_key m (get_or l i (entry_of [])).message ≡ Ordering.eq → counted anti m l ≡ recounted anti i l
  unfolding recounted
  counted_again [] i h f g = absurd (not-suc-le-zero h)
  counted_again (e ∷ l) zero h f g = counted_eq e l g
  counted_again (e ∷ l) (suc i) h f g =
      counted_gt e l (f 0 (suc-le-suc zero-le))
      ∙ ap (λ (r : List Entry). e ∷ r) (counted_again l i (le_of_suc-le-suc h) (λ j p. f (suc j) (suc-le-suc p)) g)

-- ---- on rows

-- the last row that is read before m settles its place, since the queue is in order
pub placed : (q : List (List ℕ)) (m : List ℕ) (i : ℕ) → in_order entry_key (map entry_of q) ≡ true → i ≤ length q
    → (0 < i → is_gt (answer (reading_order m (get_or q (i - 1) []))) ≡ true) → (i < length q → is_gt (answer (reading_order m (get_or q i []))) ≡ false) → Placed q m i
placed q m i asc h low high =
    record {
      fits = h;
      first = λ k b. let o : reading_order m (get_or q (i - 1) []) ≡ Ordering.gt = is_after _ (low (omega arith)) in ⊎_elim
          (λ e. rw e o)
          (λ g. keys_turn (key k) (message_key (message_of m)) (keys_trans (key k) (key (i - 1)) (message_key (message_of m)) (ascends q asc k (i - 1) g (omega arith)) (keys_flip (message_key (message_of m)) (key (i - 1)) o)))
          (eq-or-lt_of_le (let z : k ≤ i - 1 = omega arith in z));
      last = λ b. not_after _ (high b);
    }
  where
    key : ℕ → List ℕ
    key k = message_key (message_of (get_or q k []))

module _ {q : List (List ℕ)} {m : List ℕ} {i : ℕ} (at : Placed q m i) where
  first : (k : ℕ) → k < i → compare message_key (message_of m) (get_or (map entry_of q) k (entry_of [])).message ≡ Ordering.gt
  first k h = rw (get_or-map entry_of q k []) (at.first k h)

  new : (i < length q → reading_order m (get_or q i []) ≡ Ordering.lt) → Found q m (Err i)
  new f = (
    at.fits,
    λ anti. counted_new anti (message_of m) (map entry_of q) i (rw (length-map q entry_of) at.fits) first
        (λ h. rw (get_or-map entry_of q i []) (f (rw (length-map q entry_of) at h))),
  )

  pub found_again : i < length q → is_eq (answer (reading_order m (get_or q i []))) ≡ true → Found q m (Ok i)
  found_again h e = (h, λ anti. counted_again anti (message_of m) (map entry_of q) i (rw (length-map q entry_of) h) first (rw (get_or-map entry_of q i []) (is_same _ e)))

  pub found_between : i < length q → is_eq (answer (reading_order m (get_or q i []))) ≡ false → Found q m (Err i)
  found_between h e = new (λ b. is_before _ (at.last b) e)

  pub found_last : length q ≤ i → Found q m (Err i)
  found_last h = new (λ b. absurd (let z : ⊥ = omega arith in z))

-- ---- the rows that say it

module _ (r : List (List ℕ)) (i : ℕ) (anti : Bool) where
  pub new_row : (m : List ℕ) → added anti i (message_of m) (map entry_of r) ≡ map entry_of (take i r ++ with_last m (moved anti 256) ∷ drop i r)
  unfolding added
  new_row m = sym (map_append entry_of (take i r) (with_last m (moved anti 256) ∷ drop i r) ∙ rw (map_take entry_of i r, map_drop entry_of i r, net_new anti))

  pub new_many : (m : List ℕ) → i ≤ length r → length (added anti i (message_of m) (map entry_of r)) ≡ length r + 1
  new_many m h = rw (new_row m) (simp (length-map, length-append, length-take, length-drop) (omega arith))

  module _ (p : 1 ≤ count_at r i) where
    pub gone : moved anti (count_at r i) ≡ 256 → recounted anti i (map entry_of r) ≡ map entry_of (take i r ++ drop (i + 1) r)
    unfolding recounted
    gone e = sym (map_append entry_of (take i r) (drop (i + 1) r) ∙ rw (map_take entry_of i r, map_drop entry_of (i + 1) r, get_or-map entry_of r i [], net_gone anti (count_at r i) p, eq-eqb _ 256 e, add-one i))

    pub kept : (moved anti (count_at r i) ≡ 256 → ⊥) → recounted anti i (map entry_of r) ≡ map entry_of (take i r ++ with_last (get_or r i []) (moved anti (count_at r i)) ∷ drop (i + 1) r)
    unfolding recounted
    kept e = sym (map_append entry_of (take i r) (with_last (get_or r i []) (moved anti (count_at r i)) ∷ drop (i + 1) r)
        ∙ rw (map_take entry_of i r, map_drop entry_of (i + 1) r, get_or-map entry_of r i [], net_gone anti (count_at r i) p, ne_eqb _ 256 e, net_moved anti (count_at r i) p, add-one i))

-- a queue whose first k rows are these
pub holds : (q : List (List ℕ)) (k : ℕ) (rows : List (List ℕ)) (l : List Entry) → take k q ≡ rows → k ≡ length rows → l ≡ map entry_of rows → Holds (entries q) k l
holds q k rows l e n f = record { same = ap (map entry_of) e ∙ sym f; many = n ∙ sym (ap length f ∙ length-map rows entry_of) }
