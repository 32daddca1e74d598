-- Laws of the memory: what its shape and a lawful memory give, by name; lists that are given by a function of the place; and how the state changes
-- when the rows of one process change, or the rows in transit and the numbers of the whole.
use Rattle.std.specs.Prelude.{◌≡◌, Bool, true, false, not, leb, eqb, length, get_or, take, set}
use Rattle.std.proofs.Math.Path.{refl, ap, ap₂}
use Rattle.std.proofs.Common.{◌∙◌, le_of_suc-le-suc, not-suc-le-zero, length-set, get_or-set_same, get_or-set_other}
use mathlib.Core.List.{List, [], ◌∷◌}
use Prim.Native.Nat.{ℕ, zero, suc, ◌+◌, ◌≤◌, ◌<◌}
use native.Mathlib.Omega.{arith}
use Rattle.std.proofs.Math.Decide.{ℕ_discrete}
use Rattle.std.proofs.Math.Nat.{zero-add}
use Rattle.std.proofs.Math.ListN.{length-map}
use Rattle.std.proofs.Math.Seq.{length-take-le}
use borrow.Author.Tests.{eqb-true, eq-eqb, leb-true, le-leb, not-true}
use Rattle.definition.specs.declared.Stand.{Stand}
use Rattle.definition.specs.declared.Saved.{Saved}
use Rattle.definition.specs.Message.{Message}
use Rattle.definition.specs.Model.{Model}
use Rattle.definition.specs.State.{Entry, Process, Mail, State, process}
use Rattle.definition.specs.BadState.{bad}
use Rattle.laws.specs.Places.{and_true, true_and}
use Rattle.queue.specs.Rows.{mail_of, mails}
use Rattle.rule.specs.Rows.{processes_of, setup_of, model_of, shaped_model}
use Rattle.memory.specs.Memory.{Memory, state_of, shaped, shaped_at, lawful, number, own_at, input_at, output_at, process_of, process_at, whole, listed, all_of}

-- ---- lists given by a function of the place

module _ {A : Type 0} where
  pub listed_length : (k n : ℕ) (f : ℕ → A) → length (listed k n f) ≡ n
  unfolding listed
  listed_length k zero f = refl
  listed_length k (suc n) f = ap suc (listed_length (suc k) n f)

  pub listed_at : (k n : ℕ) (f : ℕ → A) (p : ℕ) (d : A) → p < n → get_or (listed k n f) p d ≡ f (k + p)
  unfolding listed
  listed_at k zero f p d h = absurd (not-suc-le-zero h)
  listed_at k (suc n) f zero d h = ap f (let z : k ≡ k + 0 = omega arith in z)
  listed_at k (suc n) f (suc p) d h = listed_at (suc k) n f p d (le_of_suc-le-suc h) ∙ ap f (let z : suc k + p ≡ k + suc p = omega arith in z)

  pub listed_same : (k n : ℕ) (f g : ℕ → A) → ((j : ℕ) → k ≤ j → j < k + n → f j ≡ g j) → listed k n f ≡ listed k n g
  unfolding listed
  listed_same k zero f g h = refl
  listed_same k (suc n) f g h = ap₂ ◌∷◌ (h k (omega arith) (omega arith)) (listed_same (suc k) n f g (λ j a b. h j (omega arith) (omega arith)))

  -- one place changes and no other
  pub listed_set : (k n : ℕ) (f g : ℕ → A) (p : ℕ) → p < n → ((j : ℕ) → j < k + n → (j ≡ k + p → ⊥) → g j ≡ f j) → listed k n g ≡ set (listed k n f) p (g (k + p))
  unfolding listed
  listed_set k zero f g p h same = absurd (not-suc-le-zero h)
  listed_set k (suc n) f g zero h same =
      let z : k ≡ k + 0 = omega arith in
      ap₂ ◌∷◌ (ap g z) (listed_same (suc k) n g f (λ j a b. same j (omega arith) (λ e. omega arith)))
  listed_set k (suc n) f g (suc p) h same =
      let z : suc k + p ≡ k + suc p = omega arith in
      ap₂ ◌∷◌ (same k (omega arith) (λ e. omega arith)) (listed_set (suc k) n f g p (le_of_suc-le-suc h) (λ j a b. same j (omega arith) (λ e. b (omega arith))) ∙ rw z)

pub all_of_at : (k n : ℕ) (f : ℕ → Bool) → all_of k n f ≡ true → (p : ℕ) → p < n → f (k + p) ≡ true
unfolding all_of
all_of_at k zero f h p l = absurd (not-suc-le-zero l)
all_of_at k (suc n) f h zero l = let z : k + 0 ≡ k = omega arith in rw z (and_true _ _ h).0
all_of_at k (suc n) f h (suc p) l = let z : k + suc p ≡ suc k + p = omega arith in rw z (all_of_at (suc k) n f (and_true (f k) _ h).1 p (le_of_suc-le-suc l))

pub at_all_of : (k n : ℕ) (f : ℕ → Bool) → ((p : ℕ) → p < n → f (k + p) ≡ true) → all_of k n f ≡ true
unfolding all_of
at_all_of k zero f h = refl
at_all_of k (suc n) f h =
    let z : k + 0 ≡ k = omega arith in
    true_and (rw z at (h 0 (omega arith))) (at_all_of (suc k) n f (λ p l. let y : k + suc p ≡ suc k + p = omega arith in rw y at (h (suc p) (omega arith))))

-- ---- the shape, by name

pub record ShapeAt (m : Memory) (p : ℕ) : Type 0 where
  pub inputs : length (input_at m p) ≡ 64
  pub outputs : length (output_at m p) ≡ 64
  pub own : length (own_at m p) ≡ 33
  pub entries : number (own_at m p) 0 ≤ 64
  pub sends : number (own_at m p) 1 ≤ 64
  pub events : number (own_at m p) 2 ≤ 32

pub record Shape (m : Memory) : Type 0 where
  pub model : shaped_model m.model ≡ true
  pub rules : length m.model ≡ 8
  pub processes : processes_of m.model ≤ 8
  pub inputs : length m.inputs ≡ 8
  pub outputs : length m.outputs ≡ 8
  pub transit : length m.transit ≡ 128
  pub own : length m.own ≡ 9
  pub numbers : length (whole m) ≡ 33
  pub mail : number (whole m) 0 ≤ 128
  pub at : (p : ℕ) → p < processes_of m.model → ShapeAt m p

module _ (m : Memory) where
  pub shape_at : (p : ℕ) → shaped_at m p ≡ true → ShapeAt m p
  unfolding shaped_at
  shape_at p s =
      let a = and_true (eqb (length (input_at m p)) 64) _ s in
      let b = and_true (eqb (length (output_at m p)) 64) _ a.1 in
      let c = and_true (eqb (length (own_at m p)) 33) _ b.1 in
      let d = and_true (leb (number (own_at m p) 0) 64) _ c.1 in
      let e = and_true (leb (number (own_at m p) 1) 64) _ d.1 in
      record {
        inputs = eqb-true _ _ a.0;
        outputs = eqb-true _ _ b.0;
        own = eqb-true _ _ c.0;
        entries = leb-true _ _ d.0;
        sends = leb-true _ _ e.0;
        events = leb-true _ _ e.1;
      }

  pub at_shape : (p : ℕ) → ShapeAt m p → shaped_at m p ≡ true
  unfolding shaped_at
  at_shape p s =
      true_and (eq-eqb _ 64 s.inputs) (true_and (eq-eqb _ 64 s.outputs) (true_and (eq-eqb _ 33 s.own)
      (true_and (le-leb _ 64 s.entries) (true_and (le-leb _ 64 s.sends) (le-leb _ 32 s.events)))))

  pub shape : shaped m ≡ true → Shape m
  unfolding shaped shaped_model
  shape s =
      let a = and_true (shaped_model m.model) _ s in
      let b = and_true (eqb (length m.inputs) 8) _ a.1 in
      let c = and_true (eqb (length m.outputs) 8) _ b.1 in
      let d = and_true (eqb (length m.transit) 128) _ c.1 in
      let e = and_true (eqb (length m.own) 9) _ d.1 in
      let f = and_true (eqb (length (whole m)) 33) _ e.1 in
      let g = and_true (leb (number (whole m) 0) 128) _ f.1 in
      let r = and_true (eqb (length m.model) 8) _ a.0 in
      record {
        model = a.0;
        rules = eqb-true _ _ r.0;
        processes = leb-true _ _ (and_true (leb (processes_of m.model) 8) _ r.1).0;
        inputs = eqb-true _ _ b.0;
        outputs = eqb-true _ _ c.0;
        transit = eqb-true _ _ d.0;
        own = eqb-true _ _ e.0;
        numbers = eqb-true _ _ f.0;
        mail = leb-true _ _ g.0;
        at = λ p h. shape_at p (rw zero-add at (all_of_at 0 (processes_of m.model) (shaped_at m) g.1 p h));
      }

  pub shape_shaped : Shape m → shaped m ≡ true
  unfolding shaped
  shape_shaped s =
      true_and s.model (true_and (eq-eqb _ 8 s.inputs) (true_and (eq-eqb _ 8 s.outputs) (true_and (eq-eqb _ 128 s.transit) (true_and (eq-eqb _ 9 s.own)
      (true_and (eq-eqb _ 33 s.numbers) (true_and (le-leb _ 128 s.mail)
      (at_all_of 0 (processes_of m.model) (shaped_at m) (λ p h. rw (zero-add p) (at_shape p (s.at p h))))))))))

  -- ---- what a memory says, by its counts

  pub process_count : length (state_of m).processes ≡ processes_of m.model
  unfolding state_of
  process_count = listed_length 0 (processes_of m.model) (process_at m)

  pub process_at_lem : (p : ℕ) → p < processes_of m.model → process (state_of m) p ≡ process_at m p
  unfolding state_of
  process_at_lem p h = listed_at 0 (processes_of m.model) (process_at m) p _ h ∙ rw zero-add

  module _ (s : Shape m) where
    pub model_count : length (state_of m).model ≡ processes_of m.model
    unfolding state_of model_of
    model_count = length-map (take (processes_of m.model) m.model) setup_of ∙ length-take-le (processes_of m.model) m.model (omega (arith, s.rules, s.processes))

    pub mail_count : length (state_of m).transit ≡ number (whole m) 0
    unfolding state_of
    mail_count = length-map (take (number (whole m) 0) m.transit) mail_of ∙ length-take-le (number (whole m) 0) m.transit (omega (arith, s.transit, s.mail))

-- ---- a lawful memory

module _ (m : Memory) where
  pub lawful_shape : lawful m ≡ true → Shape m
  unfolding lawful
  lawful_shape l = shape m (and_true (shaped m) (not (bad (state_of m))) l).0

  pub lawful_sane : lawful m ≡ true → bad (state_of m) ≡ false
  unfolding lawful
  lawful_sane l = not-true _ (and_true (shaped m) (not (bad (state_of m))) l).1

  pub shape_lawful : Shape m → bad (state_of m) ≡ false → lawful m ≡ true
  unfolding lawful
  shape_lawful s b = true_and (shape_shaped m s) (rw b)

-- ---- records are equal where their fields are

module _ {M M' : Model} {P P' : List Process} {T T' : List Mail} {h h' n n' r r' : ℕ} where
  pub same_state : M ≡ M' → P ≡ P' → T ≡ T' → h ≡ h' → n ≡ n' → r ≡ r' →
      ◌≡◌ {A = State} (record { model = M; processes = P; transit = T; horizon = h; next = n; recorded = r }) (record { model = M'; processes = P'; transit = T'; horizon = h'; next = n'; recorded = r' })
  same_state e f g k l w = cc

module _ {b b' : Stand} {i i' : List Entry} {o o' : List Message} {h h' : List Saved} where
  pub same_process : b ≡ b' → i ≡ i' → o ≡ o' → h ≡ h' → ◌≡◌ {A = Process} (record { base = b; input = i; output = o; history = h }) (record { base = b'; input = i'; output = o'; history = h' })
  same_process e f g k = cc

-- ---- the rows of one process change

-- the memory m with these rows for process p
abbrev pub with_rows : Memory → ℕ → List (List ℕ) → List (List ℕ) → List (List ℕ) → Memory
with_rows m p own inputs outputs =
    record { model = m.model; inputs = set m.inputs p inputs; outputs = set m.outputs p outputs; transit = m.transit; own = set m.own p own }

module _ (m : Memory) (s : Shape m) (p : ℕ) (there : p < processes_of m.model) (own inputs outputs : List (List ℕ)) where
  abbrev after : Memory
  after = with_rows m p own inputs outputs

  low : p < 8
  low = omega (arith, s.processes)

  pub rows_whole : whole after ≡ whole m
  rows_whole = get_or-set_other m.own p 8 own [] (λ e. omega (arith, low))

  pub rows_own : own_at after p ≡ own
  rows_own = get_or-set_same m.own p own [] (omega (arith, low, s.own))

  pub rows_inputs : input_at after p ≡ inputs
  rows_inputs = get_or-set_same m.inputs p inputs [] (omega (arith, low, s.inputs))

  pub rows_outputs : output_at after p ≡ outputs
  rows_outputs = get_or-set_same m.outputs p outputs [] (omega (arith, low, s.outputs))

  pub rows_process : process_at after p ≡ process_of own inputs outputs
  rows_process = rw (rows_own, rows_inputs, rows_outputs)

  pub rows_other : (j : ℕ) → (j ≡ p → ⊥) → process_at after j ≡ process_at m j
  rows_other j ne = rw (get_or-set_other m.own p j own [] ne, get_or-set_other m.inputs p j inputs [] ne, get_or-set_other m.outputs p j outputs [] ne)

  pub rows_state : state_of after
      ≡ record {
        model = (state_of m).model;
        processes = set (state_of m).processes p (process_of own inputs outputs);
        transit = (state_of m).transit;
        horizon = (state_of m).horizon;
        next = (state_of m).next;
        recorded = (state_of m).recorded;
      }
  unfolding state_of
  rows_state = same_state refl
      (listed_set 0 (processes_of m.model) (process_at m) (process_at after) p there (λ j h ne. rows_other j (λ e. ne (rw (zero-add p) e))) ∙ rw (zero-add, rows_process))
      (ap (λ (w : List (List ℕ)). mails m.transit (number w 0)) rows_whole)
      (ap (λ (w : List (List ℕ)). number w 1) rows_whole)
      (ap (λ (w : List (List ℕ)). number w 2) rows_whole)
      (ap (λ (w : List (List ℕ)). number w 3) rows_whole)

  pub rows_shape : length own ≡ 33 → length inputs ≡ 64 → length outputs ≡ 64 → number own 0 ≤ 64 → number own 1 ≤ 64 → number own 2 ≤ 32 → Shape after
  rows_shape w i o a b c =
      record {
        model = s.model;
        rules = s.rules;
        processes = s.processes;
        inputs = length-set m.inputs p inputs ∙ s.inputs;
        outputs = length-set m.outputs p outputs ∙ s.outputs;
        transit = s.transit;
        own = length-set m.own p own ∙ s.own;
        numbers = rw rows_whole s.numbers;
        mail = rw rows_whole s.mail;
        at = λ j h. elim (ℕ_discrete j p) [ yes e ↦ rw e here | no ne ↦ other j ne (s.at j h) ];
      }
    where
      here : ShapeAt after p
      here =
          record {
            inputs = ap length rows_inputs ∙ i;
            outputs = ap length rows_outputs ∙ o;
            own = ap length rows_own ∙ w;
            entries = rw rows_own a;
            sends = rw rows_own b;
            events = rw rows_own c;
          }

      other : (j : ℕ) → (j ≡ p → ⊥) → ShapeAt m j → ShapeAt after j
      other j ne t =
          record {
            inputs = rw (get_or-set_other m.inputs p j inputs [] ne) t.inputs;
            outputs = rw (get_or-set_other m.outputs p j outputs [] ne) t.outputs;
            own = rw (get_or-set_other m.own p j own [] ne) t.own;
            entries = rw (get_or-set_other m.own p j own [] ne) t.entries;
            sends = rw (get_or-set_other m.own p j own [] ne) t.sends;
            events = rw (get_or-set_other m.own p j own [] ne) t.events;
          }

-- ---- the rows in transit and the numbers of the whole change

-- the memory m with these rows in transit, and these rows at the end of own
abbrev pub with_whole : Memory → List (List ℕ) → List (List ℕ) → Memory
with_whole m transit numbers = record { model = m.model; inputs = m.inputs; outputs = m.outputs; transit = transit; own = set m.own 8 numbers }

module _ (m : Memory) (s : Shape m) (transit numbers : List (List ℕ)) where
  abbrev changed : Memory
  changed = with_whole m transit numbers

  pub whole_whole : whole changed ≡ numbers
  whole_whole = get_or-set_same m.own 8 numbers [] (omega (arith, s.own))

  pub whole_process : (j : ℕ) → j < 8 → process_at changed j ≡ process_at m j
  whole_process j h = rw (get_or-set_other m.own 8 j numbers [] (λ e. omega arith))

  pub whole_state : state_of changed
      ≡ record {
        model = (state_of m).model;
        processes = (state_of m).processes;
        transit = mails transit (number numbers 0);
        horizon = number numbers 1;
        next = number numbers 2;
        recorded = number numbers 3;
      }
  unfolding state_of
  whole_state = same_state refl
      (listed_same 0 (processes_of m.model) (process_at changed) (process_at m) (λ j a b. whole_process j (omega (arith, s.processes))))
      (ap (λ (w : List (List ℕ)). mails transit (number w 0)) whole_whole)
      (ap (λ (w : List (List ℕ)). number w 1) whole_whole)
      (ap (λ (w : List (List ℕ)). number w 2) whole_whole)
      (ap (λ (w : List (List ℕ)). number w 3) whole_whole)

  pub whole_shape : length transit ≡ 128 → length numbers ≡ 33 → number numbers 0 ≤ 128 → Shape changed
  whole_shape t w c =
      record {
        model = s.model;
        rules = s.rules;
        processes = s.processes;
        inputs = s.inputs;
        outputs = s.outputs;
        transit = t;
        own = length-set m.own 8 numbers ∙ s.own;
        numbers = ap length whole_whole ∙ w;
        mail = rw whole_whole c;
        at = λ j h. same j (omega (arith, s.processes)) (s.at j h);
      }
    where
      same : (j : ℕ) → j < 8 → ShapeAt m j → ShapeAt changed j
      same j h t =
          let e : own_at changed j ≡ own_at m j = get_or-set_other m.own 8 j numbers [] (λ z. omega arith) in
          record { inputs = t.inputs; outputs = t.outputs; own = rw e t.own; entries = rw e t.entries; sends = rw e t.sends; events = rw e t.events }
