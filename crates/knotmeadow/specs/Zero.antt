-- No refusal has the number 0: a host that is told 0 knows that the call was worked, the model accepted or the entry read.
use Rattle.std.specs.Prelude.{◌≡◌, refl, Bool, cond, not, ◌&&◌, ◌||◌, List, [], ◌∷◌, length, drop, ltb, eqb}
use Rattle.std.proofs.Math.Bool.{true, false}
use Prim.Native.Nat.{ℕ, zero, suc, ◌+◌, ◌-◌, ◌*◌, ◌%◌, ◌<◌}
use Rattle.std.proofs.Common.{arith}
use Rattle.std.proofs.Math.Dec.{leb}
use Rattle.definition.specs.declared.Call.{Call}
use Rattle.definition.specs.Answer.{Started}
use Rattle.definition.specs.declared.Effect.TheVariants.{Set, Add}
use Rattle.definition.specs.declared.Value.TheVariants.{Fixed}
use Rattle.definition.specs.House.{Number, Read, Fault as NumberFault, largest, last_groups, more_groups, ends, read_groups, number_at}
use Rattle.definition.specs.Model.{Model, ok_model}
use Rattle.definition.specs.ModelBytes.{Parsed, Got, Fault, and_then, in_order_at, mapped, ranged, field, effect_by, effect_at, value_by, value_at, send_at, sends_at, rule_at, rules_at, setup_at, setups_at, whole, model_in}
use Rattle.definition.specs.State.{State}
use Rattle.definition.specs.Calls.{Result, number_of, done, check, started, start}
use Rattle.lawful.specs.Steps.{by_steps}
use Rattle.rule.specs.Rows.{model_of, shaped_model}
use Rattle.memory.specs.Memory.{Memory, Table, Rows, state_of, shaped}
use Rattle.memory.specs.Promise.{is_refusal, due, sized, due_start}
use Rattle.model.specs.Stored.{has_room, model_for}
use Rattle.record.specs.Reading.{entry_at}
use Rattle.run.specs.Promise.{Done as RanDone, Refused as RanRefused}
use Rattle.knotmeadow.specs.Told.{ran_due, ran_number, number_in}

-- ---- the calls

abbrev Zero : Result → Type 0
Zero r = number_of r.answer ≡ 0 → is_refusal r.answer ≡ false

-- a test that refuses by another number than 0
tested : (b : Bool) (n : ℕ) (s : State) (r : Result) → Zero r → Zero (check b (suc n) s r)
unfolding check
tested true n s r h e = absurd (omega arith)
tested false n s r h e = h e

pub worked : (m : Memory) (c : Call) → number_of (due m c).answer ≡ 0 → is_refusal (due m c).answer ≡ false
unfolding due
worked m c = tested (not (shaped m)) 15 (state_of m) _ (by_steps (state_of m) (λ (d : Call) (r : Result). Zero r) (record {
  refused = λ d n e. absurd (omega arith);
  injects = λ n p t k v _ e. refl;
  delivers = λ i _ _ _ e. refl;
  executes = λ p _ _ _ e. refl;
  advances = λ ceiling room e. refl;
}) c)

pub begun : (m : Memory) → number_of (due_start m).answer ≡ 0 → is_refusal (due_start m).answer ≡ false
unfolding due_start start
begun m =
    tested (not (shaped_model m.model && sized m)) 15 (state_of m) _
    (tested (not (ok_model (model_of m.model))) 15 (state_of m) (done Started (started (model_of m.model))) (λ e. refl))

begun_by : (refused : Bool) (calls next recorded : ℕ) → ran_number (cond refused (RanRefused 16) (RanDone calls next recorded)) ≡ 0 → refused ≡ false
begun_by true calls next recorded e = absurd (omega (arith, e))
begun_by false calls next recorded e = refl

-- a run that is told by 0 was begun
pub run_begun : (bs : List ℕ) (m : Memory) (answers : Rows) (committed : List ℕ) → ran_number (ran_due bs m answers committed) ≡ 0 → is_refusal (due_start m).answer ≡ false
unfolding ran_due
run_begun bs m answers committed = begun_by (is_refusal (due_start m).answer) _ _ _

-- ---- what is read from bytes

abbrev pub is_read : {A : Type 0} → Parsed A → Bool
is_read (Got a next) = true
is_read (Fault n at) = false

-- a fault's number, 1 for none: that it is not 0 is a fact of numbers
abbrev or_one : {A : Type 0} → Parsed A → ℕ
or_one (Got a next) = 1
or_one (Fault n at) = n

record Nonzero {A : Type 0} (p : Parsed A) : Type 0 where
  sure : 0 < or_one p

got : {A : Type 0} {a : A} {next : ℕ} → Nonzero (Got a next)
got = record { sure = omega arith }

fault : {A : Type 0} (n : ℕ) {at : ℕ} → Nonzero {A = A} (Fault (suc n) at)
fault n = record { sure = omega arith }

read_by_zero : {A : Type 0} (p : Parsed A) → Nonzero p → number_in p ≡ 0 → is_read p ≡ true
read_by_zero (Got a next) h e = refl
read_by_zero (Fault n at) h e = absurd (omega (arith, h.sure, e))

and_then_lem : {A B : Type 0} (p : Parsed A) (f : A → ℕ → Parsed B) → Nonzero p → ((a : A) (next : ℕ) → Nonzero (f a next)) → Nonzero (and_then p f)
and_then_lem (Got a next) f h k = k a next
and_then_lem (Fault n at) f h k = record { sure = h.sure }

in_order_lem : {A : Type 0} (b : Bool) (at : ℕ) (p : Parsed A) → Nonzero p → Nonzero (in_order_at b at p)
in_order_lem true at p h = h
in_order_lem false at p h = fault 12

maps : {A B : Type 0} (f : A → B) (p : Parsed A) → Nonzero p → Nonzero (mapped f p)
maps f p h = and_then_lem p _ h (λ a next. got)

abbrev number_or_one : Number → ℕ
number_or_one (Read v next) = 1
number_or_one (NumberFault n) = n

either : (b : Bool) (x y : Number) → 0 < number_or_one x → 0 < number_or_one y → 0 < number_or_one (cond b x y)
either true x y h k = h
either false x y h k = k

ends_nonzero : (w v next b : ℕ) → 0 < number_or_one (ends w v next b)
unfolding ends
ends_nonzero w v next b = either (ltb 1 w && eqb b 0) (NumberFault 10) (Read (v + w * b) next) (omega arith) (omega arith)

groups_nonzero : (g w v at : ℕ) (bs : List ℕ) → 0 < number_or_one (read_groups g w v at bs)
unfolding read_groups
groups_nonzero g w v at [] = omega arith
groups_nonzero zero w v at (b ∷ bs) = either (leb last_groups b) (NumberFault 11) (ends w v (suc at) b) (omega arith) (ends_nonzero w v (suc at) b)
groups_nonzero (suc g) w v at (b ∷ bs) =
    either (leb 128 b) (read_groups g (w * 128) (v + w * (b % 128)) (suc at) bs) (ends w v (suc at) b)
    (groups_nonzero g (w * 128) (v + w * (b % 128)) (suc at) bs) (ends_nonzero w v (suc at) b)

number_nonzero : (bs : List ℕ) (at : ℕ) → 0 < number_or_one (number_at bs at)
unfolding number_at
number_nonzero bs at = groups_nonzero more_groups 1 0 at (drop at bs)

ranged_nonzero : (low high at : ℕ) (x : Number) → 0 < number_or_one x → Nonzero (ranged low high at x)
ranged_nonzero low high at (NumberFault n) h = record { sure = h }
ranged_nonzero low high at (Read v next) h = go (leb low v && leb v high)
  where
    go : (b : Bool) → Nonzero (cond b (Got v next) (Fault 12 at))
    go true = got
    go false = fault 11

field_nonzero : (bs : List ℕ) (low high at : ℕ) → Nonzero (field bs low high at)
unfolding field
field_nonzero bs low high at = ranged_nonzero low high at (number_at bs at) (number_nonzero bs at)

module _ (bs : List ℕ) where
  effect_nonzero : (at : ℕ) → Nonzero (effect_at bs at)
  unfolding effect_at
  effect_nonzero at = and_then_lem (field bs 0 3 at) (effect_by bs) (field_nonzero bs 0 3 at) go
    where
      go : (tag next : ℕ) → Nonzero (effect_by bs tag next)
      go zero next = got
      go (suc zero) next = maps Set (field bs 0 largest next) (field_nonzero bs 0 largest next)
      go (suc (suc zero)) next = maps Add (field bs 0 largest next) (field_nonzero bs 0 largest next)
      go (suc (suc (suc n))) next = got

  value_nonzero : (at : ℕ) → Nonzero (value_at bs at)
  unfolding value_at
  value_nonzero at = and_then_lem (field bs 0 2 at) (value_by bs) (field_nonzero bs 0 2 at) go
    where
      go : (tag next : ℕ) → Nonzero (value_by bs tag next)
      go zero next = maps Fixed (field bs 0 largest next) (field_nonzero bs 0 largest next)
      go (suc zero) next = got
      go (suc (suc n)) next = got

  send_nonzero : (highest at : ℕ) → Nonzero (send_at bs highest at)
  unfolding send_at
  send_nonzero highest at =
      and_then_lem _ _ (field_nonzero bs 0 highest at) (λ receiver next.
      and_then_lem _ _ (field_nonzero bs 1 65_535 next) (λ delay next.
      and_then_lem _ _ (field_nonzero bs 0 7 next) (λ kind next.
      and_then_lem _ _ (value_nonzero next) (λ value next. got))))

  sends_nonzero : (highest n at : ℕ) → Nonzero (sends_at bs highest n at)
  unfolding sends_at
  sends_nonzero highest zero at = got
  sends_nonzero highest (suc n) at = and_then_lem _ _ (send_nonzero highest at) (λ s next. maps _ _ (sends_nonzero highest n next))

  rule_nonzero : (highest m k at : ℕ) → Nonzero (rule_at bs highest m k at)
  unfolding rule_at
  rule_nonzero highest m k at =
      and_then_lem _ _ (field_nonzero bs 0 7 at) (λ mode next.
      in_order_lem (leb m mode) at _ (
      and_then_lem _ _ (field_nonzero bs 0 7 next) (λ kind next.
      in_order_lem (ltb m mode || leb k kind) at _ (
      and_then_lem _ _ (field_nonzero bs 0 7 next) (λ after next.
      and_then_lem _ _ (effect_nonzero next) (λ effect next.
      and_then_lem _ _ (field_nonzero bs 0 2 next) (λ count next.
      and_then_lem _ _ (sends_nonzero highest count next) (λ sends next. got))))))))

  rules_nonzero : (highest m k n at : ℕ) → Nonzero (rules_at bs highest m k n at)
  unfolding rules_at
  rules_nonzero highest m k zero at = got
  rules_nonzero highest m k (suc n) at =
      and_then_lem _ _ (rule_nonzero highest m k at) (λ r next. maps _ _ (rules_nonzero highest r.mode (suc r.kind) n next))

  setup_nonzero : (highest at : ℕ) → Nonzero (setup_at bs highest at)
  unfolding setup_at
  setup_nonzero highest at =
      and_then_lem _ _ (field_nonzero bs 0 7 at) (λ mode next.
      and_then_lem _ _ (field_nonzero bs 0 largest next) (λ tally next.
      and_then_lem _ _ (field_nonzero bs 0 64 next) (λ count next.
      and_then_lem _ _ (rules_nonzero highest 0 0 count next) (λ rules next. got))))

  setups_nonzero : (highest n at : ℕ) → Nonzero (setups_at bs highest n at)
  unfolding setups_at
  setups_nonzero highest zero at = got
  setups_nonzero highest (suc n) at = and_then_lem _ _ (setup_nonzero highest at) (λ u next. maps _ _ (setups_nonzero highest n next))

  whole_nonzero : (M : Model) (next : ℕ) → Nonzero (whole bs M next)
  whole_nonzero M next = go (ltb next (length bs))
    where
      go : (b : Bool) → Nonzero (cond b (Fault 14 next) (Got M next))
      go true = fault 13
      go false = got

  model_nonzero : Nonzero (model_in bs)
  unfolding model_in
  model_nonzero = and_then_lem _ _ (field_nonzero bs 1 8 0) (λ count next. and_then_lem _ _ (setups_nonzero (count - 1) count next) whole_nonzero)

  pub model_read : (rows : Table) → number_in (model_for bs rows) ≡ 0 → is_read (model_for bs rows) ≡ true
  unfolding model_for
  model_read rows = go (has_room rows)
    where
      go : (b : Bool) → number_in (cond b (model_in bs) (Fault 16 0)) ≡ 0 → is_read (cond b (model_in bs) (Fault 16 0)) ≡ true
      go true e = read_by_zero (model_in bs) model_nonzero e
      go false e = absurd (omega arith)

  entry_nonzero : (at former : ℕ) → Nonzero (entry_at bs at former)
  unfolding entry_at
  entry_nonzero at former =
      and_then_lem _ _ (field_nonzero bs 0 (largest - former) at) (λ since next.
      and_then_lem _ _ (field_nonzero bs 0 largest next) (λ process next.
      and_then_lem _ _ (field_nonzero bs 0 largest next) (λ read next.
      and_then_lem _ _ (field_nonzero bs 0 largest next) (λ mode next.
      maps _ _ (field_nonzero bs 0 largest next)))))

  pub entry_read : (at former : ℕ) → number_in (entry_at bs at former) ≡ 0 → is_read (entry_at bs at former) ≡ true
  entry_read at former = read_by_zero (entry_at bs at former) (entry_nonzero at former)
