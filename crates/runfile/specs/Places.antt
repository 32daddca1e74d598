-- A house number that is read is at most the largest, and the next place is past its own and within the bytes; so the place after a call is past the
-- call's, and what a call's or a model's fault is told at is within them. Nothing here asks that the list holds bytes.
use Rattle.std.specs.Prelude.{◌≡◌, Bool, cond, ◌&&◌, ◌||◌, List, [], ◌∷◌, ltb, eqb, drop}
use Rattle.std.proofs.Math.Path.{refl}
use Rattle.std.proofs.Math.Bool.{true, false}
use Prim.Native.Nat.{ℕ, zero, suc, ◌+◌, ◌-◌, ◌*◌, ◌%◌, ◌≤◌, ◌<◌}
use Rattle.std.proofs.Common.{arith, leb-false, length-drop}
use Rattle.std.proofs.Math.Dec.{leb}
use Rattle.std.proofs.Math.ListN.{length}
use Rattle.definition.specs.House.{Number, Read, Fault as NumberFault, largest, more_groups, last_groups, ends, read_groups, number_at}
use Rattle.definition.specs.declared.Call.{Call}
use Rattle.definition.specs.declared.Call.TheVariants.{Deliver, Execute, Advance}
use Rattle.definition.specs.Model.{Model}
use Rattle.definition.specs.ModelBytes.{Parsed, Got, Fault, and_then, mapped, ranged, field, in_order_at, effect_by, effect_at, value_by, value_at, send_at, sends_at, rule_at, rules_at, setup_at, setups_at, whole, model_in}
use Rattle.definition.specs.Program.{buffer_length, argument, call_by, call_at}
use Rattle.house.specs.Groups.{capacity, Room, room_first, room_next, room_sum, byte_cut, byte_held}
use Rattle.house.specs.Numbers.{holds}

-- ---- numbers

-- what a number gives is below this, and its next place past `at` and not past `end`
data Gives (below at end : ℕ) : Number → Type 0 where
  gives : {n next : ℕ} → n < below → at < next → next ≤ end → Gives below at end (Read n next)
  fails : {n : ℕ} → Gives below at end (NumberFault n)

longer : (at size : ℕ) {below : ℕ} {k : Number} → Gives below (suc at) (suc at + size) k → Gives below at (at + suc size) k
longer at size (gives {next = next} p q r) = gives {next = next} p (omega arith) (omega arith)
longer at size fails = fails

groups : (g w v at : ℕ) (bs : List ℕ) → Room g w v → Gives (capacity more_groups) at (at + length bs) (read_groups g w v at bs)
unfolding read_groups ends
groups g w v at [] r = rw (byte_cut g w v at) fails
groups zero w v at (b ∷ bs) r = go (leb last_groups b) refl (ltb 1 w && eqb b 0)
  where
    go : (big : Bool) → leb last_groups b ≡ big → (long : Bool)
        → Gives (capacity more_groups) at (at + suc (length bs)) (cond big (NumberFault 11) (cond long (NumberFault 10) (Read (v + w * b) (suc at))))
    go true e long = fails
    go false e true = fails
    go false e false =
        let small : b < last_groups = leb-false last_groups b e in
        gives {next = suc at} (room_sum zero w v b r (byte_held zero b (omega arith) (λ z. small))) (omega arith) (omega arith)
groups (suc g) w v at (b ∷ bs) r =
    go (leb 128 b) refl (ltb 1 w && eqb b 0)
    (groups g (w * 128) (v + w * (b % 128)) (suc at) bs (rw (suc_less g) at (room_next (suc g) w v (b % 128) (omega arith) r (omega arith))))
  where
    suc_less : (k : ℕ) → suc k - 1 ≡ k
    suc_less k = omega arith

    go : (more : Bool) → leb 128 b ≡ more → (long : Bool)
        → Gives (capacity more_groups) (suc at) (suc at + length bs) (read_groups g (w * 128) (v + w * (b % 128)) (suc at) bs)
        → Gives (capacity more_groups) at (at + suc (length bs))
        (cond more (read_groups g (w * 128) (v + w * (b % 128)) (suc at) bs) (cond long (NumberFault 10) (Read (v + w * b) (suc at))))
    go true e long h = longer at (length bs) h
    go false e true h = fails
    go false e false h =
        gives {next = suc at} (room_sum (suc g) w v b r (byte_held (suc g) b (leb-false 128 b e) (λ z. absurd (omega arith)))) (omega arith) (omega arith)

pub record Placed (bs : List ℕ) (at n next : ℕ) : Type 0 where
  pub small : n ≤ largest
  pub after : at < next
  pub within : next ≤ length bs

pub number_placed : (bs : List ℕ) (at n next : ℕ) → number_at bs at ≡ Read n next → Placed bs at n next
unfolding number_at
number_placed bs at n next = go (groups more_groups 1 0 at (drop at bs) room_first)
  where
    go : {k : Number} → Gives (capacity more_groups) at (at + length (drop at bs)) k → k ≡ Read n next → Placed bs at n next
    go (gives {n = m} {next = place} p q r) e =
        let same : m ≡ n = cc in
        let there : place ≡ next = cc in
        record { small = omega (arith, holds); after = omega arith; within = omega (arith, length-drop at bs) }
    go fails e = let z : ◌≡◌ {A = ℕ} 0 1 = cc in absurd (omega arith)

-- ---- what is read from a place on

-- the place after what is read is at or after `low` and not past `end`; nor is a fault's
data Past {A : Type 0} (low end : ℕ) : Parsed A → Type 0 where
  past : {a : A} {next : ℕ} → low ≤ next → next ≤ end → Past low end (Got a next)
  fault : {n place : ℕ} → place ≤ end → Past low end (Fault n place)

then_past : {A B : Type 0} {low end : ℕ} {p : Parsed A} (f : A → ℕ → Parsed B)
    → Past low end p → ((a : A) (next : ℕ) → low ≤ next → next ≤ end → Past low end (f a next)) → Past low end (and_then p f)
then_past f (past l m) h = h _ _ l m
then_past f (fault m) h = fault m

mapped_past : {A B : Type 0} {low end : ℕ} {p : Parsed A} (f : A → B) → Past low end p → Past low end (mapped f p)
mapped_past f (past l m) = past l m
mapped_past f (fault m) = fault m

fault_past : {A : Type 0} {low end n place : ℕ} → Past {A = A} low end (Fault n place) → place ≤ end
fault_past (fault m) = m

module _ (bs : List ℕ) (low : ℕ) where
  abbrev Reads : {A : Type 0} → Parsed A → Type 0
  Reads p = Past low (length bs) p

  field_past : (least most : ℕ) {at : ℕ} → low ≤ suc at → at ≤ length bs → Reads (field bs least most at)
  unfolding field
  field_past least most {at} h l = go (number_at bs at) refl
    where
      go : (k : Number) → number_at bs at ≡ k → Reads (ranged least most at k)
      go (NumberFault n) e = fault l
      go (Read v next) e = within (leb least v && leb v most) (number_placed bs at v next e)
        where
          within : (b : Bool) → Placed bs at v next → Reads (cond b (Got v next) (Fault 12 at))
          within true p = past {next = next} (omega (arith, p.after)) p.within
          within false p = fault l

  -- a field after what was read
  more : (least most : ℕ) {at : ℕ} → low ≤ at → at ≤ length bs → Reads (field bs least most at)
  more least most h l = field_past least most (omega arith) l

-- ---- calls

module _ (bs : List ℕ) (at : ℕ) (l : at ≤ length bs) where
  call_past : Past (suc at) (length bs) (call_at bs at)
  unfolding call_at
  call_past = then_past (call_by bs) (field_past bs (suc at) 0 3 (omega arith) l) by
    where
      one : {place : ℕ} → suc at ≤ place → place ≤ length bs → Past (suc at) (length bs) (argument bs place)
      one h m = more bs (suc at) 0 largest h m

      by : (tag place : ℕ) → suc at ≤ place → place ≤ length bs → Past (suc at) (length bs) (call_by bs tag place)
      by zero place h m =
          then_past _ (one h m) (λ number next h m.
          then_past _ (one h m) (λ receiver next h m.
          then_past _ (one h m) (λ time next h m.
          then_past _ (one h m) (λ kind next h m.
          mapped_past _ (one h m)))))
      by (suc zero) place h m = mapped_past Deliver (one h m)
      by (suc (suc zero)) place h m = mapped_past Execute (one h m)
      by (suc (suc (suc n))) place h m = mapped_past (λ ceiling. Advance ceiling buffer_length) (one h m)

  pub call_placed : (c : Call) (next : ℕ) → call_at bs at ≡ Got c next → (at < next) × (next ≤ length bs)
  call_placed c next e = go (rw e at call_past)
    where
      go : Past (suc at) (length bs) (Got c next) → (at < next) × (next ≤ length bs)
      go (past h m) = (h, m)

  -- a call's fault is told within the input
  pub call_fault_placed : (n place : ℕ) → call_at bs at ≡ Fault n place → place ≤ length bs
  call_fault_placed n place e = fault_past (rw e at call_past)

-- ---- models

-- so is a model's
module _ (bs : List ℕ) where
  abbrev Model-reads : {A : Type 0} → Parsed A → Type 0
  Model-reads p = Past 0 (length bs) p

  here : {A : Type 0} {a : A} {next : ℕ} → next ≤ length bs → Model-reads (Got a next)
  here {next = next} l = past {next = next} (omega arith) l

  number_past : (least most : ℕ) {at : ℕ} → at ≤ length bs → Model-reads (field bs least most at)
  number_past least most l = more bs 0 least most (omega arith) l

  effect_past : {at : ℕ} → at ≤ length bs → Model-reads (effect_at bs at)
  unfolding effect_at
  effect_past l = then_past (effect_by bs) (number_past 0 3 l) by
    where
      by : (tag place : ℕ) → 0 ≤ place → place ≤ length bs → Model-reads (effect_by bs tag place)
      by zero place h m = here m
      by (suc zero) place h m = mapped_past _ (number_past 0 largest m)
      by (suc (suc zero)) place h m = mapped_past _ (number_past 0 largest m)
      by (suc (suc (suc n))) place h m = past h m

  value_past : {at : ℕ} → at ≤ length bs → Model-reads (value_at bs at)
  unfolding value_at
  value_past l = then_past (value_by bs) (number_past 0 2 l) by
    where
      by : (tag place : ℕ) → 0 ≤ place → place ≤ length bs → Model-reads (value_by bs tag place)
      by zero place h m = mapped_past _ (number_past 0 largest m)
      by (suc zero) place h m = past h m
      by (suc (suc n)) place h m = past h m

  tested_past : {A : Type 0} (b : Bool) {at : ℕ} {r : Parsed A} → at ≤ length bs → Model-reads r → Model-reads (in_order_at b at r)
  tested_past true l h = h
  tested_past false l h = fault l

  module _ (highest : ℕ) where
    send_past : {at : ℕ} → at ≤ length bs → Model-reads (send_at bs highest at)
    unfolding send_at
    send_past l =
        then_past _ (number_past 0 highest l) (λ receiver next h l.
        then_past _ (number_past 1 65_535 l) (λ delay next h l.
        then_past _ (number_past 0 7 l) (λ kind next h l.
        then_past _ (value_past l) (λ value next h l.
        past h l))))

    sends_past : (n : ℕ) {at : ℕ} → at ≤ length bs → Model-reads (sends_at bs highest n at)
    unfolding sends_at
    sends_past zero l = here l
    sends_past (suc n) l = then_past _ (send_past l) (λ s next h l. mapped_past _ (sends_past n l))

    rule_past : (m k : ℕ) {at : ℕ} → at ≤ length bs → Model-reads (rule_at bs highest m k at)
    unfolding rule_at
    rule_past m k l =
        then_past _ (number_past 0 7 l) (λ mode next h i.
        tested_past (leb m mode) l (
        then_past _ (number_past 0 7 i) (λ kind next h i.
        tested_past (ltb m mode || leb k kind) l (
        then_past _ (number_past 0 7 i) (λ after next h i.
        then_past _ (effect_past i) (λ effect next h i.
        then_past _ (number_past 0 2 i) (λ count next h i.
        then_past _ (sends_past count i) (λ sends next h i.
        past h i))))))))

    rules_past : (m k n : ℕ) {at : ℕ} → at ≤ length bs → Model-reads (rules_at bs highest m k n at)
    unfolding rules_at
    rules_past m k zero l = here l
    rules_past m k (suc n) l = then_past _ (rule_past m k l) (λ r next h l. mapped_past _ (rules_past r.mode (suc r.kind) n l))

    setup_past : {at : ℕ} → at ≤ length bs → Model-reads (setup_at bs highest at)
    unfolding setup_at
    setup_past l =
        then_past _ (number_past 0 7 l) (λ mode next h l.
        then_past _ (number_past 0 largest l) (λ tally next h l.
        then_past _ (number_past 0 64 l) (λ count next h l.
        then_past _ (rules_past 0 0 count l) (λ rules next h l.
        past h l))))

    setups_past : (n : ℕ) {at : ℕ} → at ≤ length bs → Model-reads (setups_at bs highest n at)
    unfolding setups_at
    setups_past zero l = here l
    setups_past (suc n) l = then_past _ (setup_past l) (λ u next h l. mapped_past _ (setups_past n l))

  whole_past : (M : Model) {next : ℕ} → next ≤ length bs → Model-reads (whole bs M next)
  whole_past M {next} l = go (ltb next (length bs))
    where
      go : (b : Bool) → Model-reads (cond b (Fault 14 next) (Got M next))
      go true = fault l
      go false = here l

  pub model_fault_placed : (n place : ℕ) → model_in bs ≡ Fault n place → place ≤ length bs
  unfolding model_in
  model_fault_placed n place e =
      fault_past (rw e at (then_past _ (number_past 1 8 {at = 0} (omega arith)) (λ count next h l.
      then_past (whole bs) (setups_past (count - 1) count l) (λ M next h l. whole_past M l))))
