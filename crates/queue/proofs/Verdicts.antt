-- The verdict on an arrival, by where the message stands and the count that its entry would have.
use Rattle.std.specs.Prelude.{ℕ, ◌≡◌, refl, Bool, true, false, cond, ◌&&◌, List, [], ◌∷◌, ◌++◌, ◌+◌, ◌-◌, ◌≤◌, map, length, get_or, take, drop, eqb, Option, Some, Ok, Err}
use Rattle.std.specs.Bool.{then_some}
use Rattle.std.proofs.Common.{ap, sym, ◌∙◌, arith, length-append, length-take, length-drop, take-append-drop}
use Rattle.std.proofs.lemmas.List.{length-map}
use Rattle.std.proofs.Math.Bool.{and_assoc, and-true}
use borrow.Author.Tests.{eqb-true, eqb-false}
use Rattle.definition.specs.Lists.{all}
use Rattle.definition.specs.State.{Entry, counted}
use Rattle.definition.specs.BadState.{ok_net, ok_nets}
use Rattle.laws.specs.Slices.{map_append, map_take, map_drop}
use Rattle.laws.specs.Places.{and_true, true_and}
use Rattle.queue.specs.Rows.{message_of, net_of, entry_of, with_last}
use Rattle.queue.specs.Queues.{count_at, Found, Judged, moved}
use Rattle.queue.proofs.Nets.{net_new_ok}
use Rattle.queue.proofs.Orders.{counts}
use Rattle.queue.proofs.Arrivals.{new_row, new_many, gone, kept}

nets_append : (a b : List Entry) → ok_nets (a ++ b) ≡ ok_nets a && ok_nets b
unfolding all
nets_append [] b = refl
nets_append (x ∷ a) b = rw (nets_append a b) (sym (and_assoc (ok_net x.net) (ok_nets a) (ok_nets b)))

nets_parts : (i : ℕ) (l : List Entry) → ok_nets l ≡ true → (ok_nets (take i l) ≡ true) × (ok_nets (drop i l) ≡ true)
nets_parts i l h = and_true _ _ (sym (nets_append (take i l) (drop i l)) ∙ ap ok_nets (take-append-drop i l) ∙ h)

nets_cons : (x : Entry) (l : List Entry) → ok_nets (x ∷ l) ≡ ok_net x.net && ok_nets l
unfolding all
nets_cons x l = refl

nets_with : (a : List Entry) (x : Entry) (b : List Entry) → ok_nets a ≡ true → ok_nets b ≡ true → ok_nets (a ++ x ∷ b) ≡ ok_net x.net
nets_with a x b p q = nets_append a (x ∷ b) ∙ rw (p, nets_cons x b, q) (and-true (ok_net x.net))

module _ (q : List (List ℕ)) (m : List ℕ) (i : ℕ) (anti : Bool) (ok : ok_nets (map entry_of q) ≡ true) where
  -- the entries before place k and from there on
  parts : (k : ℕ) → (ok_nets (map entry_of (take k q)) ≡ true) × (ok_nets (map entry_of (drop k q)) ≡ true)
  parts k = rw (map_take entry_of k q, map_drop entry_of k q) (nets_parts k (map entry_of q) ok)

  nets_around : (e : List ℕ) (k : ℕ) → ok_nets (map entry_of (take i q ++ e ∷ drop k q)) ≡ ok_net (entry_of e).net
  nets_around e k = rw (map_append entry_of (take i q) (e ∷ drop k q)) (nets_with (map entry_of (take i q)) (entry_of e) (map entry_of (drop k q)) (parts i).0 (parts k).1)

  pub judged_new : Found q m (Err i) → Judged (length q) (counted anti (message_of m) (map entry_of q)) (Some (length q + 1))
  judged_new f = rw (f.1 anti) (rw (new_row q i anti m) (nets_around (with_last m (moved anti 256)) i ∙ net_new_ok anti), sym (new_many q i anti m f.0))

  module _ (f : Found q m (Ok i)) where
    abbrev c : ℕ
    c = moved anti (count_at q i)

    low : 1 ≤ count_at q i
    low = (counts q ok i f.0).0

    abbrev verdict : Option ℕ
    verdict = cond (eqb c 256) (Some (length q - 1)) (then_some (ok_net (net_of c)) (length q))

    judged_gone : c ≡ 256 → Judged (length q) (counted anti (message_of m) (map entry_of q)) (Some (length q - 1))
    judged_gone e = rw (f.1 anti, gone q i anti low e) (
      rw (map_append entry_of (take i q) (drop (i + 1) q)) (nets_append (map entry_of (take i q)) (map entry_of (drop (i + 1) q)) ∙ true_and (parts i).0 (parts (i + 1)).1),
      simp (length-map, length-append, length-take, length-drop) (omega (arith, f.0)),
    )

    judged_kept : (c ≡ 256 → ⊥) → (t : Bool) → ok_net (net_of c) ≡ t → Judged (length q) (counted anti (message_of m) (map entry_of q)) (then_some t (length q))
    judged_kept n t e = rw (f.1 anti, kept q i anti low n) (go t (nets_around (with_last (get_or q i []) c) (i + 1) ∙ e))
      where
        rows : List (List ℕ)
        rows = take i q ++ with_last (get_or q i []) c ∷ drop (i + 1) q

        many : length (map entry_of rows) ≡ length q
        many = simp (length-map, length-append, length-take, length-drop) (omega (arith, f.0))

        go : (t : Bool) → ok_nets (map entry_of rows) ≡ t → Judged (length q) (map entry_of rows) (then_some t (length q))
        go true h = (h, sym many)
        go false h = (h, many)

    pub judged_again : Judged (length q) (counted anti (message_of m) (map entry_of q)) verdict
    judged_again = go (eqb c 256) refl
      where
        go : (t : Bool) → eqb c 256 ≡ t → Judged (length q) (counted anti (message_of m) (map entry_of q)) (cond t (Some (length q - 1)) (then_some (ok_net (net_of c)) (length q)))
        go true e = judged_gone (eqb-true c 256 e)
        go false e = judged_kept (eqb-false c 256 e) (ok_net (net_of c)) refl
