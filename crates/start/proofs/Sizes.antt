-- The lengths of the lists, by name; and which of them are left to test.
use mathlib.Core.Path.{◌≡◌, refl}
use mathlib.Core.Bool.{Bool, true, false, ◌&&◌}
use mathlib.Core.List.{[]}
use Prim.Native.Nat.{ℕ, ◌<◌, ◌≤◌}
use native.Mathlib.Omega.{arith}
use native.Mathlib.Nat.{zero-add}
use lib.ListN.{length, get_or}
use lib.Dec.{eqb}
use borrow.Author.Tests.{eqb-true}
use Rattle.laws.specs.Places.{and_true}
use Rattle.rule.specs.Rows.{processes_of}
use Rattle.memory.specs.Memory.{Memory, Table, Rows, all_of, whole}
use Rattle.memory.specs.Promise.{sized_rows, sized_for, sized}
use Rattle.memory.specs.Laws.{at_all_of, all_of_at}

pub record SizesAt (m : Memory) (p : ℕ) : Type 0 where
  pub inputs : length (get_or m.inputs p []) ≡ 64
  pub outputs : length (get_or m.outputs p []) ≡ 64
  pub own : length (get_or m.own p []) ≡ 33

pub record Sizes (m : Memory) : Type 0 where
  pub inputs : length m.inputs ≡ 8
  pub outputs : length m.outputs ≡ 8
  pub transit : length m.transit ≡ 128
  pub own : length m.own ≡ 9
  pub numbers : length (whole m) ≡ 33
  pub at : (p : ℕ) → p < processes_of m.model → SizesAt m p

pub sizes : (m : Memory) → sized m ≡ true → Sizes m
unfolding sized_for
sizes m s =
    let a = and_true (eqb (length m.inputs) 8) _ s in
    let b = and_true (eqb (length m.outputs) 8) _ a.1 in
    let c = and_true (eqb (length m.transit) 128) _ b.1 in
    let d = and_true (eqb (length m.own) 9) _ c.1 in
    let e = and_true (eqb (length (whole m)) 33) _ d.1 in
    record {
      inputs = eqb-true _ _ a.0;
      outputs = eqb-true _ _ b.0;
      transit = eqb-true _ _ c.0;
      own = eqb-true _ _ d.0;
      numbers = eqb-true _ _ e.0;
      at = λ p h. at_process p (rw zero-add at (all_of_at 0 (processes_of m.model) (λ q. sized_rows (get_or m.inputs q []) (get_or m.outputs q []) (get_or m.own q [])) e.1 p h));
    }
  where
    at_process : (p : ℕ) → sized_rows (get_or m.inputs p []) (get_or m.outputs p []) (get_or m.own p []) ≡ true → SizesAt m p
    at_process p k =
        let i = and_true (eqb (length (get_or m.inputs p [])) 64) _ k in
        let o = and_true (eqb (length (get_or m.outputs p [])) 64) _ i.1 in
        record { inputs = eqb-true _ _ i.0; outputs = eqb-true _ _ o.0; own = eqb-true _ _ o.1 }

-- the list of own rows, whatever the number of processes
pub own_long : (n : ℕ) (inputs outputs : Table) (transit : Rows) (own : Table) → sized_for n inputs outputs transit own ≡ true → length own ≡ 9
unfolding sized_for
own_long n inputs outputs transit own s =
    let a = and_true (eqb (length inputs) 8) _ s in
    let b = and_true (eqb (length outputs) 8) _ a.1 in
    let c = and_true (eqb (length transit) 128) _ b.1 in
    eqb-true _ _ (and_true (eqb (length own) 9) _ c.1).0

-- the type of each list's elements says how many rows they have: so the lengths of the lists are all that is left to test
module _ (n : ℕ) (inputs outputs : Table) (transit : Rows) (own : Table) (few : n ≤ 8) (inputs_at : (p : ℕ) → p < length inputs → length (get_or inputs p []) ≡ 64)
    (outputs_at : (p : ℕ) → p < length outputs → length (get_or outputs p []) ≡ 64) (own_at : (p : ℕ) → p < length own → length (get_or own p []) ≡ 33) where
  rows_sized : length inputs ≡ 8 → length outputs ≡ 8 → length own ≡ 9 → (p : ℕ) → p < n → sized_rows (get_or inputs p []) (get_or outputs p []) (get_or own p []) ≡ true
  rows_sized i o w p h = rw (inputs_at p (omega arith), outputs_at p (omega arith), own_at p (omega arith))

  pub sized_is : sized_for n inputs outputs transit own ≡ eqb (length inputs) 8 && (eqb (length outputs) 8 && (eqb (length transit) 128 && eqb (length own) 9))
  unfolding sized_for
  sized_is = go (eqb (length inputs) 8) refl (eqb (length outputs) 8) refl (eqb (length transit) 128) (eqb (length own) 9) refl
    where
      go : (a : Bool) → eqb (length inputs) 8 ≡ a → (b : Bool) → eqb (length outputs) 8 ≡ b → (c d : Bool) → eqb (length own) 9 ≡ d
          → a && (b && (c && (d && (eqb (length (get_or own 8 [])) 33 && all_of 0 n (λ p. sized_rows (get_or inputs p []) (get_or outputs p []) (get_or own p [])))))) ≡ a && (b && (c && d))
      go true i true o true true w =
          let l : length own ≡ 9 = eqb-true _ _ w in
          rw (own_at 8 (omega arith)) (at_all_of 0 n _ (λ p h. rw zero-add (rows_sized (eqb-true _ _ i) (eqb-true _ _ o) l p h)))
      go true i true o true false w = refl
      go true i true o false d w = refl
      go true i false o c d w = refl
      go false i b o c d w = refl
