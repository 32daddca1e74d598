-- The first turn keeps its promise: by a fault's line, and then nothing is changed, or by the model's, and then its start has been made.
use mathlib.Core.Path.{◌≡◌, refl, sym, ap, ap₂, ◌∙◌}
use mathlib.Core.Bool.{Bool, true, false, cond, not, ◌&&◌}
use mathlib.Core.List.{List, []}
use Rattle.std.specs.Prelude.{Result, Ok, Err, IsOk}
use Prim.Native.Nat.{ℕ, zero, suc, ◌+◌, ◌-◌, ◌≤◌, ◌<◌}
use native.Mathlib.Omega.{arith}
use borrow.Author.Tests.{lt-ltb, le-ltb}
use lib.Dec.{ltb, eqb}
use lib.ListN.{length, take, drop, get_or, length-drop}
use lib.Seq.{length-take-le}
use Rattle.definition.specs.declared.refusal.Refusal.{Refusal}
use Rattle.definition.specs.declared.Answer.{Answer as Given}
use Rattle.definition.specs.Answer.{Answer, Started, answer_of}
use Rattle.definition.specs.House.{Number, Read, Fault as NumberFault, number_at}
use Rattle.definition.specs.Model.{Model, ok_model}
use Rattle.definition.specs.ModelBytes.{Parsed, Got, Fault, model_in}
use Rattle.definition.specs.Calls.{Result as Outcome, done, start, started}
use Rattle.definition.specs.Program.{file_text, model_text, fault_line, model_line}
use Rattle.definition.specs.Record.{onto}
use Rattle.laws.specs.Places.{and_true, true_and}
use Rattle.runfile.specs.Reading.{head_by, head_of, head_within}
use Rattle.runfile.specs.Places.{model_fault_placed}
use Rattle.model.specs.Stored.{has_room, model_for, answered, rows_after, Promise}
use Rattle.rule.specs.Rows.{processes_of, model_of, shaped_model, lawful_model}
use Rattle.rule.specs.Laws.{lawful_model_lem}
use Rattle.memory.specs.Memory.{Memory, Table, Rows, state_of, lawful}
use Rattle.memory.specs.Laws.{all_of_at, at_all_of}
use Rattle.memory.specs.Keeping.{check_no}
use Rattle.memory.specs.Promise.{sized_rows, sized_for, sized, due_start, Begun}
use Rattle.rehearsal.specs.Turns.{first_turn}
use Rattle.lines.specs.Promise.{longest}
use Rattle.rehearsal.specs.Promise.{Progress, Refused, first_refusal, first_due, Begins, Says, is_refusal, model_by}

-- ---- the start of a model that was read

-- lists that are long enough for eight processes are for fewer
fewer : (n : ℕ) (inputs outputs : Table) (transit : Rows) (own : Table) → n ≤ 8 → sized_for 8 inputs outputs transit own ≡ true → sized_for n inputs outputs transit own ≡ true
unfolding sized_for
fewer n inputs outputs transit own h s =
    let a = and_true (eqb (length inputs) 8) _ s in
    let b = and_true (eqb (length outputs) 8) _ a.1 in
    let c = and_true (eqb (length transit) 128) _ b.1 in
    let d = and_true (eqb (length own) 9) _ c.1 in
    let e = and_true (eqb (length (get_or own 8 [])) 33) _ d.1 in
    true_and a.0 (true_and b.0 (true_and c.0 (true_and d.0 (true_and e.0
    (at_all_of 0 n (λ p. sized_rows (get_or inputs p []) (get_or outputs p []) (get_or own p [])) (λ p k. all_of_at 0 8 (λ p. sized_rows (get_or inputs p []) (get_or outputs p []) (get_or own p [])) e.1 p (omega arith)))))))

module _ (m : Memory) (M : Model) (ok : lawful_model m.model ≡ true) (holds : model_of m.model ≡ M) (long : sized_for 8 m.inputs m.outputs m.transit m.own ≡ true) where
  start_due : due_start m ≡ done Started (started M)
  unfolding due_start start lawful_model
  start_due =
      let a = and_true (shaped_model m.model) (ok_model (model_of m.model)) ok in
      let s : sized m ≡ true = fewer (processes_of m.model) m.inputs m.outputs m.transit m.own (lawful_model_lem m.model ok).most long in
      check_no (not (shaped_model m.model && sized m)) 16 (state_of m) _ (ap not (true_and a.0 s))
      ∙ check_no (not (ok_model (model_of m.model))) 16 (state_of m) (done Started (started (model_of m.model))) (ap not a.1)
      ∙ ap (λ (N : Model). done Started (started N)) holds

  -- it is not refused
  started_ok : (r : Result Given Refusal) {w : Memory} → Begun m (answer_of r) w → IsOk r
  started_ok (Ok a) b = refl
  started_ok (Err r) b =
      let e = b.answer ∙ ap (λ (o : Outcome). o.answer) start_due in
      let z : ◌≡◌ {A = ℕ} 0 1 = cc in
      absurd (omega arith)

  started_first : {a : Answer} {w : Memory} → Begun m a w → (state_of w ≡ started M) × (lawful w ≡ true)
  started_first b = let e = start_due in (b.state ∙ ap (λ (o : Outcome). o.after) e, b.lawful_first (rw (b.answer, e) refl))

-- ---- the promise

module _ (m : Memory) (bs before : List ℕ) where
  abbrev roomy : Bool
  roomy = has_room m.model && sized_for 8 m.inputs m.outputs m.transit m.own

  -- refused by a number: nothing is written
  refused_first : (n : ℕ) → first_refusal m (length before) ≡ n → 0 < n → Begins m bs (Refused n) m before before
  unfolding first_due onto
  refused_first zero e h = absurd (omega arith)
  refused_first (suc n) e h = record {
    prints = record { answer = rw e; text = rw e; state = rw e; same = λ _. refl; lawful_again = λ l. l };
    fault_same = λ k place z. refl;
    lawful_first = λ z. no z;
  }
    where
      no : {X : Type 0} → true ≡ false → X
      no z = let y : ◌≡◌ {A = ℕ} 0 1 = cc in absurd (omega arith)

  pub no_room : roomy ≡ false → Begins m bs (Refused 16) m before before
  unfolding first_refusal
  no_room e = refused_first 16 (rw e) (omega arith)

  pub too_short : roomy ≡ true → length before < longest → Begins m bs (Refused 8) m before before
  unfolding first_refusal
  too_short e h = refused_first 8 (rw (e, lt-ltb (length before) longest h)) (omega arith)

  module _ (e : roomy ≡ true) (h : longest ≤ length before) where
    -- a turn that says these lines and leaves this memory
    turned : {a : Progress} {w : Memory} {after lines : List ℕ} {next : ℕ} → Says lines next a before after → first_turn bs (state_of m) ≡ record { lines = lines; next = next; after = state_of w }
        → (lawful m ≡ true → lawful w ≡ true) → ((n place : ℕ) → model_by bs (head_of bs) ≡ Fault n place → w ≡ m)
        → ((M : Model) (place : ℕ) → model_by bs (head_of bs) ≡ Got M place → lawful w ≡ true) → Begins m bs a w before after
    unfolding first_due first_refusal
    turned s t l i f = let z : first_refusal m (length before) ≡ 0 = rw (e, le-ltb (length before) longest h) in record {
      prints = record { answer = rw (z, t) s.answer; text = rw (z, t) s.text; state = rw (z, t); same = λ r. no (sym (ap is_refusal s.answer) ∙ r); lawful_again = l };
      fault_same = i;
      lawful_first = λ _. f;
    }
      where
        no : {X : Type 0} → false ≡ true → X
        no z = let y : ◌≡◌ {A = ℕ} 0 1 = cc in absurd (omega arith)

    no_model : {X : Type 0} {M : Model} {n at place : ℕ} → Fault n at ≡ Got M place → X
    no_model z = let y : ◌≡◌ {A = ℕ} 0 1 = cc in absurd (omega arith)

    pub file_fault : {a : Progress} {after : List ℕ} (n place : ℕ) → head_of bs ≡ Fault n place → Says (fault_line file_text n place) (length bs) a before after
        → Begins m bs a m before after
    unfolding first_turn
    file_fault n place g s = turned s (rw g) (λ l. l) (λ n place z. refl) (λ M place z. no_model (rw g at z))

    module _ (at size : ℕ) (g : head_of bs ≡ Got at size) where
      pub model_fault : {a : Progress} {w : Memory} {after : List ℕ} (n place : ℕ) → model_in (take size (drop at bs)) ≡ Fault n place → w ≡ m
          → Says (fault_line model_text n (at + place)) (length bs) a before after → Begins m bs a w before after
      unfolding first_turn
      model_fault n place k i s = turned s (rw (g, k, i)) (λ l. rw i l) (λ n place z. i) (λ M next z. no_model (rw (g, k) at z))

      pub model_read : {a : Progress} {w : Memory} {after : List ℕ} (M : Model) (place : ℕ) → model_in (take size (drop at bs)) ≡ Got M place → (state_of w ≡ started M) × (lawful w ≡ true)
          → Says (model_line (length M)) (at + size) a before after → Begins m bs a w before after
      unfolding first_turn
      model_read M place k i s = turned s (rw (g, k, i.0)) (λ l. i.1) (λ n next z. no_model (sym (rw (g, k) at z))) (λ N next z. i.1)

-- a fault of the file is told at 0 or at 65,536
pub file_fault_place : (bs : List ℕ) (n place : ℕ) → head_of bs ≡ Fault n place → place ≤ 65_536
unfolding head_of
file_fault_place bs n place = go (ltb 65_536 (length bs)) (number_at bs 0)
  where
    told : (at : ℕ) {k : ℕ} → at ≤ 65_536 → ◌≡◌ {A = Parsed ℕ} (Fault k at) (Fault n place) → place ≤ 65_536
    told at l e = let z : at ≡ place = cc in omega arith

    go : (long : Bool) (k : Number) → cond long (Fault 15 65_536) (head_by bs k) ≡ Fault n place → place ≤ 65_536
    go true k e = told 65_536 (omega arith) e
    go false (NumberFault k) e = told 0 (omega arith) e
    go false (Read size next) e = cut (ltb (length bs) (next + size)) e
      where
        cut : (short : Bool) → cond short (Fault 9 0) (Got next size) ≡ Fault n place → place ≤ 65_536
        cut true e = told 0 (omega arith) e
        cut false e = let z : ◌≡◌ {A = ℕ} 0 1 = cc in absurd (omega arith)

-- ---- what the reader of models said

-- the memory with other rows for its model
abbrev with_model : Memory → Table → Memory
with_model m rows = record { model = rows; inputs = m.inputs; outputs = m.outputs; transit = m.transit; own = m.own }

module _ (part : List ℕ) (before after : Table) (room : has_room before ≡ true) where
  for_part : model_for part before ≡ model_in part
  unfolding model_for
  for_part = rw room

  refused_model : (f : ℕ × ℕ) → Promise part before after (Err f) → (model_in part ≡ Fault f.0 f.1) × (after ≡ before)
  refused_model f p = go (model_for part before) refl p.answer
    where
      go : (q : Parsed Model) → model_for part before ≡ q → Err f ≡ answered q → (model_in part ≡ Fault f.0 f.1) × (after ≡ before)
      go (Got M next) e h = let z : ◌≡◌ {A = ℕ} 0 1 = cc in absurd (omega arith)
      go (Fault n at) e h =
          let same : ◌≡◌ {A = ℕ × ℕ} f (n, at) = cc in
          (sym for_part ∙ e ∙ ap₂ Fault (sym (ap (λ x. x.0) same)) (sym (ap (λ x. x.1) same)), p.rows ∙ ap (λ (q : Parsed Model). rows_after q before) e)

  record Model-read (n : ℕ) : Type 0 where
    M : Model
    next : ℕ
    read : model_in part ≡ Got M next
    many : n ≡ length M
    holds : model_of after ≡ M
    lawful_rows : lawful_model after ≡ true

  accepted_model : (n : ℕ) → Promise part before after (Ok n) → Model-read n
  accepted_model n p = go (model_for part before) refl p.answer
    where
      go : (q : Parsed Model) → model_for part before ≡ q → Ok n ≡ answered q → Model-read n
      go (Got M next) e h = let k = p.holds M next e in
          record { M = M; next = next; read = sym for_part ∙ e; many = cc; holds = k.0; lawful_rows = k.1 }
      go (Fault m at) e h = let z : ◌≡◌ {A = ℕ} 0 1 = cc in absurd (omega arith)

-- a model's fault is told within the input
pub fault_place : (bs : List ℕ) (before rows : Table) → has_room before ≡ true → (at size : ℕ) → head_of bs ≡ Got at size
    → (f : ℕ × ℕ) → Promise (take (at + size - at) (drop at bs)) before rows (Err f) → at + f.1 ≤ 65_536
fault_place bs before rows e at size g f p =
    let r = refused_model (take (at + size - at) (drop at bs)) before rows e f p in
    let w = head_within bs at size g in
    let d : length (drop at bs) + at ≡ length bs = omega (arith, length-drop at bs, w.0) in
    omega (arith, model_fault_placed (take (at + size - at) (drop at bs)) f.0 f.1 r.0, length-take-le (at + size - at) (drop at bs) (omega arith))

-- ---- the whole turn

module _ (m : Memory) (bs before : List ℕ) (e : roomy m bs before ≡ true) (h : longest ≤ length before) (at size : ℕ) (g : head_of bs ≡ Got at size) (rows : Table) where
  -- the model's part of the input, as a slice says it
  abbrev part : List ℕ
  part = take (at + size - at) (drop at bs)

  stands : part ≡ take size (drop at bs)
  stands = ap (λ (n : ℕ). take n (drop at bs)) (let z : at + size - at ≡ size = omega arith in z)

  pub model_refused : {a : Progress} {after : List ℕ} (f : ℕ × ℕ) → Promise part m.model rows (Err f)
      → Says (fault_line model_text f.0 (at + f.1)) (length bs) a before after → Begins m bs a (with_model m rows) before after
  model_refused f p s =
      let r = refused_model part m.model rows (and_true (has_room m.model) _ e).0 f p in
      model_fault m bs before e h at size g f.0 f.1 (ap model_in (sym stands) ∙ r.0) (ap (with_model m) r.1) s

  module _ (n : ℕ) (p : Promise part m.model rows (Ok n)) where
    lists : sized_for 8 m.inputs m.outputs m.transit m.own ≡ true
    lists = (and_true (has_room m.model) _ e).1

    accepted : Model-read part m.model rows (and_true (has_room m.model) _ e).0 n
    accepted = accepted_model part m.model rows _ n p

    pub model_starts : (r : Result Given Refusal) {w : Memory} → Begun (with_model m rows) (answer_of r) w → IsOk r
    model_starts r b = let a = accepted in started_ok (with_model m rows) a.M a.lawful_rows a.holds lists r b

    pub model_started : {a : Progress} {w : Memory} {answer : Answer} {after : List ℕ} → Begun (with_model m rows) answer w
        → Says (model_line n) (at + size) a before after → Begins m bs a w before after
    model_started b s =
        let r = accepted in
        model_read m bs before e h at size g r.M r.next (ap model_in (sym stands) ∙ r.read)
        (started_first (with_model m rows) r.M r.lawful_rows r.holds lists b) (rw r.many at s)
