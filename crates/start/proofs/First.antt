-- A start is refused by 16, or it leaves a memory that says the first state of its model.
use mathlib.Core.Path.{◌≡◌, refl, sym, ap, ◌∙◌}
use mathlib.Core.Bool.{Bool, true, false, not, ◌&&◌}
use mathlib.Core.List.{List, [], ◌∷◌, map}
use Prim.Native.Nat.{ℕ, ◌≤◌, ◌<◌}
use native.Mathlib.Omega.{arith}
use native.Mathlib.Nat.{zero-add}
use lib.ListN.{length, get_or, take, set, length-map, length-set, get_or-map}
use lib.Seq.{get_or-set_same, get_or-set_other, get_or-take, ext_get_or}
use Rattle.definition.specs.Answer.{Refused, Started}
use Rattle.definition.specs.declared.Stand.{Stand}
use Rattle.definition.specs.Model.{Setup, Model, ok_model}
use Rattle.definition.specs.State.{Process, State}
use Rattle.definition.specs.Calls.{Result, refuse, done, check, started, start}
use Rattle.definition.specs.BadState.{bad}
use Rattle.laws.specs.Places.{and_true, true_and}
use Rattle.lawful.specs.Kept.{started_not_bad}
use Rattle.queue.specs.Rows.{entries, mails, messages}
use Rattle.history.specs.Rows.{saved_at}
use Rattle.rule.specs.Rows.{setup_of, processes_of, model_of, shaped_model, lawful_model}
use Rattle.rule.specs.Laws.{lawful_model_lem}
use Rattle.memory.specs.Memory.{Memory, listed, state_of, whole, own_at, process_of, process_at}
use Rattle.memory.specs.Promise.{sized, due_start, Begun}
use Rattle.memory.specs.Laws.{listed_length, listed_at, Shape, shape_lawful, same_state, same_process}
use Rattle.memory.specs.Keeping.{check_yes, check_no}
use Rattle.start.specs.First.{first_row, first_rows, Placed}
use Rattle.start.proofs.Sizes.{Sizes, sizes}

-- ---- a refusal

either_test : (a b c : Bool) (s : State) (r : Result) → a && b ≡ false → check (not (a && c)) 16 s (check (not b) 16 s r) ≡ refuse 16 s
unfolding check
either_test true true c s r e = let z : ◌≡◌ {A = ℕ} 0 1 = cc in absurd (omega arith)
either_test true false true s r e = refl
either_test true false false s r e = refl
either_test false b c s r e = refl

first_test : (a c : Bool) (s : State) (r : Result) → c ≡ false → check (not (a && c)) 16 s r ≡ refuse 16 s
first_test true c s r e = check_yes _ 16 s r (ap not e)
first_test false c s r e = check_yes _ 16 s r refl

module _ (m : Memory) where
  refused : due_start m ≡ refuse 16 (state_of m) → Begun m (Refused 16) m
  refused e = record { answer = rw e; state = rw e; same = λ _. refl; lawful_first = λ f. let z : ◌≡◌ {A = ℕ} 0 1 = cc in absurd (omega arith) }

  pub bad_model : lawful_model m.model ≡ false → Begun m (Refused 16) m
  unfolding lawful_model due_start start
  bad_model e = refused (either_test (shaped_model m.model) (ok_model (model_of m.model)) (sized m) (state_of m) (done Started (started (model_of m.model))) e)

  pub bad_lists : sized m ≡ false → Begun m (Refused 16) m
  unfolding due_start
  bad_lists e = refused (first_test (shaped_model m.model) (sized m) (state_of m) (start (state_of m) (model_of m.model)) e)

-- ---- the first state

-- a process whose first row has been put down
fresh : (s : Stand) (own inputs outputs : List (List ℕ)) → get_or own 0 [] ≡ first_row s → process_of own inputs outputs ≡ record { base = s; input = []; output = []; history = [] }
fresh s own inputs outputs e =
    same_process (ap (λ (w : List ℕ). record { mode = get_or w 3 0; tally = get_or w 4 0 }) e)
    (ap (λ (w : List ℕ). entries inputs (get_or w 0 0)) e)
    (ap (λ (w : List ℕ). messages outputs (get_or w 1 0)) e)
    (ap (λ (w : List ℕ). saved_at own (get_or w 2 0)) e)

abbrev no_numbers : List ℕ
no_numbers = 0 ∷ 0 ∷ 0 ∷ 0 ∷ 0 ∷ 0 ∷ 0 ∷ 0 ∷ []

module _ (m : Memory) (ok : lawful_model m.model ≡ true) (z : Sizes m) (own : List (List (List ℕ))) (P : Placed m.model (processes_of m.model) m.own own) where
  abbrev n : ℕ
  n = processes_of m.model

  abbrev M : Model
  M = model_of m.model

  most : n ≤ 8
  most = (lawful_model_lem m.model ok).most

  abbrev after : Memory
  after = record { model = m.model; inputs = m.inputs; outputs = m.outputs; transit = m.transit; own = set own 8 (set (get_or own 8 []) 0 no_numbers) }

  -- ---- the rows of it

  own_at_lem : (p : ℕ) → p < n → own_at after p ≡ first_rows m.model m.own p
  own_at_lem p h = get_or-set_other own 8 p _ [] (λ e. omega (arith, most)) ∙ P.placed p h

  first_at : (p : ℕ) → p < n → get_or (own_at after p) 0 [] ≡ first_row (setup_of (get_or m.model p [])).first
  first_at p h = ap (λ (w : List (List ℕ)). get_or w 0 []) (own_at_lem p h) ∙ get_or-set_same (get_or m.own p []) 0 _ [] (omega (arith, (z.at p h).own))

  whole_is : whole after ≡ set (whole m) 0 no_numbers
  whole_is = get_or-set_same own 8 _ [] (omega (arith, P.long, z.own)) ∙ ap (λ (w : List (List ℕ)). set w 0 no_numbers) (P.rest 8 most)

  numbers_are : get_or (whole after) 0 [] ≡ no_numbers
  numbers_are = ap (λ (w : List (List ℕ)). get_or w 0 []) whole_is ∙ get_or-set_same (whole m) 0 no_numbers [] (omega (arith, z.numbers))

  -- ---- the state that they say

  abbrev fresh_of : Setup → Process
  fresh_of u = record { base = u.first; input = []; output = []; history = [] }

  process_is : (p : ℕ) → p < n → process_at after p ≡ fresh_of (setup_of (get_or m.model p []))
  process_is p h = fresh (setup_of (get_or m.model p [])).first (own_at after p) _ _ (first_at p h)

  model_length : length M ≡ n
  model_length = (lawful_model_lem m.model ok).count

  processes_are : listed 0 n (process_at after) ≡ map fresh_of M
  unfolding model_of
  processes_are = ext_get_or (fresh_of (setup_of [])) (listed 0 n (process_at after)) (map fresh_of M) (listed_length 0 n (process_at after) ∙ sym (length-map M fresh_of ∙ model_length))
      (λ p h. at p (omega (arith, listed_length 0 n (process_at after))))
    where
      at : (p : ℕ) → p < n → get_or (listed 0 n (process_at after)) p (fresh_of (setup_of [])) ≡ get_or (map fresh_of M) p (fresh_of (setup_of []))
      at p h =
          listed_at 0 n (process_at after) p _ h ∙ ap (process_at after) (zero-add p) ∙ process_is p h
          ∙ sym (get_or-map fresh_of M p (setup_of []) ∙ ap fresh_of (get_or-map setup_of (take n m.model) p [] ∙ ap setup_of (get_or-take n m.model p [] h)))

  state_is : state_of after ≡ started M
  unfolding state_of started
  state_is = same_state refl processes_are
      (ap (λ (w : List ℕ). mails m.transit (get_or w 0 0)) numbers_are)
      (ap (λ (w : List ℕ). get_or w 1 0) numbers_are)
      (ap (λ (w : List ℕ). get_or w 2 0) numbers_are)
      (ap (λ (w : List ℕ). get_or w 3 0) numbers_are)

  shape_is : Shape after
  unfolding lawful_model
  shape_is =
      record {
        model = (and_true (shaped_model m.model) (ok_model M) ok).0;
        rules = (lawful_model_lem m.model ok).long;
        processes = most;
        inputs = z.inputs;
        outputs = z.outputs;
        transit = z.transit;
        own = length-set own 8 _ ∙ P.long ∙ z.own;
        numbers = ap length whole_is ∙ length-set (whole m) 0 no_numbers ∙ z.numbers;
        mail = rw numbers_are (omega arith);
        at = λ p h.
            record {
              inputs = (z.at p h).inputs;
              outputs = (z.at p h).outputs;
              own = ap length (own_at_lem p h) ∙ length-set (get_or m.own p []) 0 _ ∙ (z.at p h).own;
              entries = rw (first_at p h) (omega arith);
              sends = rw (first_at p h) (omega arith);
              events = rw (first_at p h) (omega arith);
            };
      }

module _ (m : Memory) (ok : lawful_model m.model ≡ true) (long : sized m ≡ true) (own : List (List (List ℕ))) (P : Placed m.model (processes_of m.model) m.own own) where
  due_is : due_start m ≡ done Started (started (model_of m.model))
  unfolding due_start start lawful_model
  due_is =
      let a = and_true (shaped_model m.model) (ok_model (model_of m.model)) ok in
      check_no _ 16 (state_of m) _ (ap not (true_and a.0 long)) ∙ check_no _ 16 (state_of m) _ (ap not a.1)

  pub begun : Begun m Started (after m ok (sizes m long) own P)
  unfolding lawful_model
  begun =
      let e = state_is m ok (sizes m long) own P in
      record {
        answer = rw due_is;
        state = rw due_is e;
        same = λ f. let y : ◌≡◌ {A = ℕ} 0 1 = cc in absurd (omega arith);
        lawful_first = λ _. shape_lawful _ (shape_is m ok (sizes m long) own P) (ap bad e ∙ started_not_bad (model_of m.model) (and_true (shaped_model m.model) (ok_model (model_of m.model)) ok).1);
      }
