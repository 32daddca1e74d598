-- A queue that a time cuts in two: what it says before the time stands first.
use Rattle.std.specs.Prelude.{ℕ, ◌≡◌, refl, true, ◌-◌, ◌≤◌, List, [], map, ltb, leb, length, get_or, take, drop}
use Rattle.std.proofs.Common.{ap, sym, ◌∙◌, arith, length-take, length-drop}
use Rattle.std.proofs.lemmas.List.{length-map}
use Rattle.std.proofs.Math.ListN.{get_or-map}
use Rattle.definition.specs.Lists.{keep, in_order}
use Rattle.definition.specs.Message.{output_key}
use Rattle.definition.specs.State.{entry_key}
use Rattle.laws.specs.Slices.{map_take, map_drop}
use Rattle.laws.specs.Rising.{Rising, cut}
use Rattle.queue.specs.Rows.{message_of, entry_of}
use Rattle.queue.specs.Queues.{Cut, Parted, received_at, sent_at}
use Rattle.queue.proofs.Orders.{received_rises, sent_rises}

module _ {A : Type 0} (said : List ℕ → A) (time : A → ℕ) (q : List (List ℕ)) (t k : ℕ) where
  parted : (w : ℕ) → ((e : List ℕ) → time (said e) ≡ get_or e w 0) → Rising time (said []) (map said q) → Cut w q t k → Parted said time q t k
  parted w is r c =
      let long : length (map said q) ≡ length q = length-map q said in
      let h : k ≤ length q = c.fits in
      let s = cut time (said []) t (map said q) k r (omega arith) (λ p. rw (at (k - 1)) (c.last p)) (λ g. rw (at k) (c.next (omega arith))) in
      let b : map said (take k q) ≡ keep (λ (x : A). ltb (time x) t) (map said q) = map_take said k q ∙ sym s.0 in
      let a : map said (drop k q) ≡ keep (λ (x : A). leb t (time x)) (map said q) = map_drop said k q ∙ sym s.1 in
      record {
        fits = h;
        before = b;
        after = a;
        many_before = sym (sym (ap length b) ∙ length-map (take k q) said ∙ (simp length-take (omega arith)));
        many_after = sym (sym (ap length a) ∙ length-map (drop k q) said ∙ length-drop k q);
      }
    where
      at : (j : ℕ) → time (get_or (map said q) j (said [])) ≡ get_or (get_or q j []) w 0
      at j = ap time (get_or-map said q j []) ∙ is (get_or q j [])

pub received_parted : (q : List (List ℕ)) (t k : ℕ) → in_order entry_key (map entry_of q) ≡ true → Cut 0 q t k → Parted entry_of received_at q t k
received_parted q t k asc c = parted entry_of received_at q t k 0 (λ e. refl) (received_rises q asc) c

pub sent_parted : (o : List (List ℕ)) (t k : ℕ) → in_order output_key (map message_of o) ≡ true → Cut 1 o t k → Parted message_of sent_at o t k
sent_parted o t k asc c = parted message_of sent_at o t k 1 (λ e. refl) (sent_rises o asc) c
