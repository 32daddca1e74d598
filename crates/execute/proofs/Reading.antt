-- An event reads of a queue what it reads of the rows from the first that is not received before it.
use Rattle.std.specs.Prelude.{ℕ, zero, suc, ◌≡◌, refl, true, List, [], ◌∷◌, ◌≤◌, ◌-◌, map, length, take, drop}
use Rattle.std.proofs.Common.{ap, sym, subst, arith, take_all, length-drop}
use Rattle.definition.specs.declared.Stand.{Stand}
use Rattle.definition.specs.Lists.{in_order, is_less, compare}
use Rattle.definition.specs.Message.{Message, last_usable}
use Rattle.definition.specs.Model.{read_all}
use Rattle.definition.specs.State.{entry_key, reads_at}
use Rattle.laws.specs.Places.{and_true}
use Rattle.laws.specs.Slices.{map_drop}
use Rattle.queue.specs.Rows.{entry_of}
use Rattle.queue.specs.Queues.{received_at, Parted}
use Rattle.queue.proofs.Walk.{reads_start}
use Rattle.rule.specs.Rows.{rule_at}
use Rattle.event.specs.declared.Walk.{Walk}
use Rattle.event.specs.Event.{Readable, event_of, Outcome, ComesTo}

-- what is left of a list in order is in order
order_drop : {A : Type 0} (key : A → List ℕ) (k : ℕ) (l : List A) → in_order key l ≡ true → in_order key (drop k l) ≡ true
unfolding in_order
order_drop key zero l o = o
order_drop key (suc k) [] o = o
order_drop key (suc k) (x ∷ []) o = order_drop key k [] refl
order_drop key (suc k) (x ∷ y ∷ l) o = order_drop key k (y ∷ l) (and_true (is_less (compare key x y)) (in_order key (y ∷ l)) o).1

module _ {q : List (List ℕ)} {t k : ℕ} (parted : Parted entry_of received_at q t k) where
  -- the rows from the first that is not received before the time
  abbrev rows : List (List ℕ)
  rows = take (length q - k) (drop k q)

  rows_are : rows ≡ drop k q
  rows_are = take_all (length q - k) (drop k q) (omega (arith, length-drop k q))

  rows_read : reads_at t (map entry_of rows) ≡ reads_at t (map entry_of q)
  rows_read = rw rows_are (sym (reads_start t q k parted))

  pub readable : length q ≤ 64 → t ≤ last_usable → in_order entry_key (map entry_of q) ≡ true → Readable rows t
  readable few usable order =
      rw rows_are
      (record {
        few = omega (arith, length-drop k q);
        order = rw map_drop (order_drop entry_key k (map entry_of q) order);
        usable = usable;
      })

  pub event_is : (rules : List (List ℕ)) (p : ℕ) (s : Stand) → event_of rules rows p t s ≡ event_of rules q p t s
  event_is rules p s = ap (read_all (map rule_at rules) p t 0 s) rows_read

  pub comes_to : (rules : List (List ℕ)) (s : Stand) (r : Walk) → ComesTo rules rows t s r → ComesTo rules q t s r
  comes_to rules s r c p = subst (λ (l : List Message). Outcome (length l) (read_all (map rule_at rules) p t 0 s l) r) rows_read (c p)
