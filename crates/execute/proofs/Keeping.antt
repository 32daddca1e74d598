-- A lawful memory gives what judging and carrying out ask for; and the memory after an event that was carried out says the state after it.
use Prim.Native.Nat.{ℕ, ◌+◌, ◌≤◌, ◌<◌}
use mathlib.Core.Path.{◌≡◌, refl, sym, ap, ap₂, ◌∙◌, subst}
use mathlib.Core.Bool.{true, false}
use mathlib.Core.List.{List, [], ◌++◌, map}
use native.Mathlib.Omega.{arith}
use lib.ListN.{length, get_or, set, length-set}
use lib.Seq.{set-get_or, get_or-set_same}
use borrow.Author.Tests.{le-leb, lt-leb}
use Rattle.definition.specs.declared.refusal.Refusal.{Refusal}
use Rattle.definition.specs.Answer.{refusal_number, Refused, Executed}
use Rattle.definition.specs.declared.Call.TheVariants.{Execute}
use Rattle.definition.specs.declared.Saved.{Saved}
use Rattle.definition.specs.Lists.{in_order}
use Rattle.definition.specs.Message.{never}
use Rattle.definition.specs.Model.{Setup, Done, read_all, event}
use Rattle.definition.specs.State.{Process, State, process, plus, last, reads_at, unread, entry_key}
use Rattle.definition.specs.Calls.{Result, done, work, executed}
use Rattle.definition.specs.BadState.{bad, call}
use Rattle.laws.specs.Slices.{map_take_length}
use Rattle.lawful.specs.Changes.{worked}
use Rattle.lawful.specs.Kept.{kept}
use Rattle.lawful.specs.Open.{lawful as sane, process_of_lem}
use Rattle.queue.specs.Rows.{message_of, mails}
use Rattle.history.specs.Laws.{saved_at_length}
use Rattle.rule.specs.Rows.{rule_rows, processes_of, model_of}
use Rattle.rule.specs.Laws.{setup_at_lem}
use Rattle.memory.specs.Memory.{Memory, Table, state_of, lawful, number, process_of, own_at, input_at, output_at, process_at, whole, with_mails}
use Rattle.memory.specs.Laws.{Shape, ShapeAt, lawful_shape, lawful_sane, shape_shaped, shape_lawful, process_count, process_at_lem, model_count, mail_count, same_state, with_rows, with_whole, rows_whole, rows_state, rows_shape, whole_state, whole_shape}
use Rattle.memory.specs.Promise.{Kept}
use Rattle.memory.specs.Keeping.{kept_refused, kept_done}
use Rattle.execute.specs.declared.Due.{Due}
use Rattle.execute.specs.Plan.{Sound, last_of, unread_of, reads_of, due_of, refusal, refusal_of, Going, Carried}
use Rattle.execute.proofs.Calls.{not_in_model, refused, accepted}

first_row_lem : (w : List (List ℕ)) (row : List ℕ) (k : ℕ) → 0 < length w → number (set w 0 row) k ≡ get_or row k 0
first_row_lem w row k h = ap (λ (l : List ℕ). get_or l k 0) (get_or-set_same w 0 row [] h)

-- an event that was judged is not refused
going_clear : (rules own q : List (List ℕ)) (mails p : ℕ) (g : Due) → Going rules own q mails p g → refusal_of rules own q mails p ≡ 0
unfolding refusal
going_clear rules own q mails p g h =
    let n : ℕ = length (due_of rules own q p).sends in
    rw (lt-leb never (unread_of own q) h.usable, le-leb (mails + n) 128 (omega (arith, h.mail, h.sent)), le-leb (number own 1 + n) 64 (omega (arith, h.outputs, h.sent)), le-leb (number own 2 + 1) 32 (omega (arith, h.events)))

same_result : {t t' r r' k k' : ℕ} {s s' : State} → t ≡ t' → r ≡ r' → k ≡ k' → s ≡ s' → done (Executed t r k) s ≡ done (Executed t' r' k') s'
same_result a b c d = cc

module _ (m : Memory) (l : lawful m ≡ true) where
  abbrev before : State
  before = state_of m

  shape : Shape m
  shape = lawful_shape m l

  pub kept_outside : (p : ℕ) → processes_of m.model ≤ p → Kept m (Execute p) (Refused 1) m
  kept_outside p h = kept_refused m (Execute p) 1 (shape_shaped m shape) (ap (λ (r : Result). r.answer) (not_in_model before (lawful_sane m l) p (omega (arith, model_count m shape))))

  module _ (p : ℕ) (there : p < processes_of m.model) where
    shape_here : ShapeAt m p
    shape_here = shape.at p there

    abbrev own : List (List ℕ)
    own = own_at m p

    abbrev q : List (List ℕ)
    q = input_at m p

    abbrev output : List (List ℕ)
    output = output_at m p

    abbrev rules : List (List ℕ)
    rules = rule_rows (get_or m.model p [])

    abbrev posted : ℕ
    posted = number (whole m) 0

    is : process before p ≡ process_at m p
    is = process_at_lem m p there

    here : p < length before.processes
    here = omega (arith, process_count m)

    pub outputs_long : length output ≡ 64
    outputs_long = shape_here.outputs

    pub sound : Sound own q posted
    sound = record {
      long = shape_here.own;
      wide = shape_here.inputs;
      inputs = shape_here.entries;
      outputs = shape_here.sends;
      events = shape_here.events;
      order = subst (λ (x : Process). in_order entry_key x.input ≡ true) is (process_of_lem (sane before (lawful_sane m l)) p here).input_order;
      mail = shape.mail;
    }

    abbrev time : ℕ
    time = unread (process before p)

    time_is : time ≡ unread_of own q
    unfolding unread
    time_is = ap unread is

    work_is : work before p time ≡ due_of rules own q p
    unfolding work event state_of
    work_is = ap₂ (λ (x : Process) (t : ℕ). event (model_of m.model) p t (last x.base x.history).stand (reads_at t x.input)) is time_is
        ∙ ap (λ (u : Setup). read_all u.rules p (unread_of own q) 0 (last_of own).stand (reads_of own q)) (setup_at_lem m.model p there)

    few : length (process before p).input ≤ 64
    few = (process_of_lem (sane before (lawful_sane m l)) p here).input_room

    outputs_are : length (process before p).output ≡ number own 1
    outputs_are = ap (λ (x : Process). length x.output) is ∙ map_take_length message_of output (number own 1) (omega (arith, shape_here.sends, shape_here.outputs))

    events_are : length (process before p).history ≡ number own 2
    events_are = ap (λ (x : Process). length x.history) is ∙ saved_at_length own (number own 2) (omega (arith, shape_here.events, shape_here.own))

    number_is : refusal time (length (work before p time).sends) (length before.transit) (length (process before p).output) (length (process before p).history) ≡ refusal_of rules own q posted p
    number_is =
        ap₂ (λ (t : ℕ) (d : Done). refusal t (length d.sends) (length before.transit) (length (process before p).output) (length (process before p).history)) time_is work_is
        ∙ rw (mail_count m shape, outputs_are, events_are)

    in_model : p < length before.model
    in_model = omega (arith, model_count m shape)

    -- refused: nothing is written
    pub kept_no : (r : Refusal) → refusal_number r ≡ refusal_of rules own q posted p → Kept m (Execute p) (Refused (refusal_number r)) m
    kept_no r e = kept_refused m (Execute p) (refusal_number r) (shape_shaped m shape) (refused before (lawful_sane m l) p in_model here few r (e ∙ sym number_is))

    -- carried out
    module _ (own' output' transit' : List (List ℕ)) (g : Due) (h : Going rules own q posted p g) (c : Carried rules own q output m.transit posted p own' output' transit')
        (long : length own' ≡ length own) (wide : length output' ≡ length output) (much : length transit' ≡ length m.transit) where
      abbrev numbers : List ℕ
      numbers = with_mails (get_or (whole m) 0 []) (posted + g.sent)

      abbrev whole_rows : List (List ℕ)
      whole_rows = set (get_or (set m.own p own') 8 []) 0 numbers

      abbrev rows : Memory
      rows = with_rows m p own' q output'

      abbrev after : Memory
      after = with_whole rows transit' whole_rows

      whole_long : length (get_or (set m.own p own') 8 []) ≡ 33
      whole_long = ap length (rows_whole m shape p there own' q output') ∙ shape.numbers

      word : (k : ℕ) → number whole_rows k ≡ get_or numbers k 0
      word k = first_row_lem (get_or (set m.own p own') 8 []) numbers k (omega (arith, whole_long))

      rows_shaped : Shape rows
      rows_shaped = rows_shape m shape p there own' q output' (long ∙ shape_here.own) shape_here.inputs (wide ∙ shape_here.outputs) c.inputs c.outputs c.events

      after_shape : Shape after
      after_shape = whole_shape rows rows_shaped transit' whole_rows (much ∙ shape.transit) (length-set (get_or (set m.own p own') 8 []) 0 numbers ∙ whole_long) (rw (word 0) h.mail)

      worked_is : worked time (process before p) (work before p time) ≡ process_of own' q output'
      worked_is = ap (λ (x : Process). worked time x (work before p time)) is ∙ ap₂ (λ (t : ℕ) (d : Done). worked t (process_at m p) d) time_is work_is ∙ sym c.process

      transit_is : mails transit' (number whole_rows 0) ≡ before.transit ++ map plus (work before p time).sends
      unfolding state_of
      transit_is =
          ap (mails transit') (word 0 ∙ ap (λ (k : ℕ). posted + k) h.sent) ∙ c.mail
          ∙ ap (λ (d : Done). mails m.transit posted ++ map plus d.sends) (sym work_is)

      rows_are : state_of rows ≡ record { model = before.model; processes = set before.processes p (process_of own' q output'); transit = before.transit; horizon = before.horizon; next = before.next; recorded = before.recorded }
      rows_are = rows_state m shape p there own' q output'

      numbers_are : (number (whole m) 1 ≡ before.horizon) × (number (whole m) 2 ≡ before.next) × (number (whole m) 3 ≡ before.recorded)
      unfolding state_of
      numbers_are = (refl, refl, refl)

      state_is : executed before p time ≡ state_of after
      unfolding executed
      state_is = sym (whole_state rows rows_shaped transit' whole_rows
          ∙ same_state
          (ap (λ (s : State). s.model) rows_are)
          (ap (λ (s : State). s.processes) rows_are ∙ ap (set before.processes p) (sym worked_is))
          transit_is
          (word 1 ∙ numbers_are.0) (word 2 ∙ numbers_are.1) (word 3 ∙ numbers_are.2))

      call_is : call before (Execute p) ≡ done (Executed g.event.time g.event.read g.sent) (state_of after)
      call_is = accepted before (lawful_sane m l) p in_model here few (number_is ∙ going_clear rules own q posted p g h)
          ∙ same_result (time_is ∙ sym (ap (λ (e : Saved). e.time) h.event)) (ap₂ (λ (t : ℕ) (x : Process). length (reads_at t x.input)) time_is is ∙ sym (ap (λ (e : Saved). e.read) h.event)) (ap (λ (d : Done). length d.sends) work_is ∙ sym h.sent) state_is

      after_sane : bad (state_of after) ≡ false
      after_sane = subst (λ (r : Result). bad r.after ≡ false) call_is (kept before (lawful_sane m l) (Execute p) refl)

      pub keeps : Kept m (Execute p) (Executed g.event.time g.event.read g.sent)
          (record { model = m.model; inputs = m.inputs; outputs = set m.outputs p output'; transit = transit'; own = set (set m.own p own') 8 whole_rows })
      keeps = subst
          (λ (i : Table). Kept m (Execute p) (Executed g.event.time g.event.read g.sent) (record { model = m.model; inputs = i; outputs = set m.outputs p output'; transit = transit'; own = set (set m.own p own') 8 whole_rows }))
          (set-get_or m.inputs p [])
          (kept_done m (Execute p) after _ [] [] (shape_shaped m shape) refl call_is (shape_lawful after after_shape after_sane))
