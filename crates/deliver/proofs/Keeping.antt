-- A delivery on a lawful memory: what such a memory says of the place in transit and of the receiver, and how the promise is kept, by a refusal
-- or by the memory that is left.
use mathlib.Core.Path.{◌≡◌, refl, sym, ap, ap₂, ◌∙◌, subst}
use mathlib.Core.Bool.{true, false, not}
use mathlib.Core.List.{List, [], ◌++◌, map}
use mathlib.Core.Logic.{inl, inr}
use Prim.Native.Nat.{ℕ, ◌+◌, ◌-◌, ◌≤◌, ◌<◌}
use native.Mathlib.Omega.{arith}
use lib.Dec.{leb}
use Rattle.std.proofs.Common.{length-take-le}
use lib.ListN.{length, get_or, set, length-set}
use lib.Seq.{drop-cons, get_or-set_same, set-get_or}
use borrow.Author.Tests.{le-leb}
use Rattle.definition.specs.declared.refusal.Refusal.{Refusal as Reason}
use Rattle.definition.specs.Answer.{refusal_number, Refused, Delivered}
use Rattle.definition.specs.declared.Saved.{Saved}
use Rattle.definition.specs.declared.Call.TheVariants.{Deliver}
use Rattle.definition.specs.BadState.{bad, ok_message, ok_mail, ok_entry, ok_nets, call}
use Rattle.definition.specs.State.{Process, Mail, State, no_mail, process, from, sent_from, minus, without}
use Rattle.definition.specs.Calls.{Result, done, check, refuse, rolled_back, met}
use Rattle.laws.specs.Places.{all_at, and_true}
use Rattle.laws.specs.Slices.{map_take_at}
use Rattle.laws.specs.Tests.{length_keep}
use Rattle.lawful.specs.Changes.{cut_state}
use Rattle.lawful.specs.Kept.{kept}
use Rattle.lawful.specs.Open.{Lawful, lawful as parts, LawfulProcess, process_of_lem, message_parts, entry_parts}
use Rattle.lawful.specs.Queues.{all_so}
use Rattle.lawful.specs.Rollback.{lawful_rollback}
use Rattle.queue.specs.Rows.{mail_of, mails}
use Rattle.rule.specs.Rows.{processes_of}
use Rattle.memory.specs.Memory.{Memory, Rows, Table, state_of, lawful, number, whole, own_at, input_at, output_at, process_of, process_at, with_mails}
use Rattle.memory.specs.Promise.{Kept}
use Rattle.memory.specs.Laws.{Shape, lawful_shape, lawful_sane, shape_shaped, shape_lawful, model_count, mail_count, process_count, process_at_lem, same_state, with_rows, rows_state, rows_shape, with_whole, whole_state, whole_shape}
use Rattle.memory.specs.Keeping.{check_yes, check_no, kept_refused, kept_done}
use Rattle.deliver.specs.declared.Rollback.{Rollback}
use Rattle.deliver.specs.Plan.{Sound, arrival, room, Refusal, Going, Carried}
use Rattle.deliver.proofs.Tests.{not_there, too_far, deliver_is}

abbrev pub mail_at : Memory → ℕ → Mail
mail_at m i = mail_of (get_or m.transit i [])

get_d_any : {A : Type 0} (l : List A) (i : ℕ) (c d : A) → i < length l → get_or l i c ≡ get_or l i d
get_d_any l i c d h = let a = drop-cons l i c h in let b = drop-cons l i d h in cc

-- process q is in the model, and its rows are there
pub record Within (m : Memory) (q : ℕ) : Type 0 where
  pub known : q < processes_of m.model
  pub low : q < 8
  pub inputs : q < length m.inputs
  pub outputs : q < length m.outputs
  pub own : q < length m.own

module _ (m : Memory) (l : lawful m ≡ true) where
  abbrev s : State
  s = state_of m

  shape : Shape m
  shape = lawful_shape m l

  law : Lawful s
  law = parts s (lawful_sane m l)

  pub kept_none : (i : ℕ) → number (whole m) 0 ≤ i → Kept m (Deliver i) (Refused 5) m
  kept_none i h = kept_refused m (Deliver i) 5 (shape_shaped m shape)
      (ap (λ (r : Result). r.answer) (not_there s (lawful_sane m l) i (omega (arith, mail_count m shape))))

  -- ---- a place in transit: n is the count of transit and q the receiver, as the code has found them

  module _ (i n q : ℕ) (N : n ≡ number (whole m) 0) (h : i < n) (Q : q ≡ (mail_at m i).message.receiver) where
    abbrev x : Mail
    x = mail_at m i

    abbrev t : ℕ
    t = x.message.received

    in_transit : i < length s.transit
    in_transit = omega (arith, mail_count m shape)

    transit_at : get_or s.transit i no_mail ≡ x
    unfolding state_of
    transit_at = get_d_any s.transit i no_mail (mail_of []) in_transit ∙ map_take_at mail_of m.transit (number (whole m) 0) [] i (omega arith)

    known : q < processes_of m.model
    known =
        let k : ok_mail (length s.model) s.horizon x ≡ true = rw transit_at at (all_at (ok_mail (length s.model) s.horizon) s.transit no_mail law.transit i in_transit) in
        omega (arith, (message_parts (length s.model) x.message (and_true (ok_message (length s.model) x.message) _ k).0).receiver, model_count m shape)

    pub within : Within m q
    within = record {
      known = known;
      low = omega (arith, known, shape.processes);
      inputs = omega (arith, known, shape.processes, shape.inputs);
      outputs = omega (arith, known, shape.processes, shape.outputs);
      own = omega (arith, known, shape.processes, shape.own);
    }

    abbrev pr : Process
    pr = process_at m q

    lawful_here : LawfulProcess (length s.model) s.horizon q pr
    lawful_here = rw (process_at_lem m q known) at (process_of_lem law q (omega (arith, known, process_count m)))

    pub sound : Sound (input_at m q) (output_at m q) (own_at m q)
    sound =
        let a = shape.at q known in
        let o = lawful_here in
        record {
          input_rows = a.inputs;
          few_entries = a.entries;
          input_order = o.input_order;
          nets = all_so (ok_entry (length s.model) s.horizon q) _ (λ e a. (entry_parts (length s.model) s.horizon q e a).1) pr.input o.input;
          ordered = record {
            own_rows = a.own;
            output_rows = a.outputs;
            few_sends = a.sends;
            few_events = a.events;
            output_order = o.output_order;
            history_order = o.history_order;
          };
        }

    receiver_is : process s x.message.receiver ≡ pr
    receiver_is = ap (process s) (sym Q) ∙ process_at_lem m q known

    -- ---- what the definition answers

    nets_are : ok_nets (arrival x (process s x.message.receiver)) ≡ ok_nets (arrival x pr)
    nets_are = ap (λ (o : Process). ok_nets (arrival x o)) receiver_is

    passed : ok_nets (arrival x pr) ≡ false → call s (Deliver i) ≡ refuse 16 s
    passed e = too_far s (lawful_sane m l) i x in_transit transit_at (nets_are ∙ e)

    call_is : ok_nets (arrival x pr) ≡ true
        → call s (Deliver i) ≡ check (not (room n x pr)) 7 s (done (Delivered (length (from t pr.history)) (length (sent_from t pr.output))) (cut_state s i x))
    call_is e =
        let k : x.message.receiver < length s.processes = omega (arith, known, process_count m) in
        let few : n ≡ length s.transit = omega (arith, mail_count m shape) in
        deliver_is s (lawful_sane m l) i x in_transit transit_at k
        (lawful_rollback (length s.model) s.horizon x.message.receiver t (process s x.message.receiver) (law.each x.message.receiver k))
        (rw receiver_is lawful_here.output_room) (rw receiver_is lawful_here.history_room) (nets_are ∙ e)
        ∙ rw (receiver_is, ← few)

    pub kept_no : (r : Reason) → Refusal n x pr (refusal_number r) → Kept m (Deliver i) (Refused (refusal_number r)) m
    kept_no r why = kept_refused m (Deliver i) (refusal_number r) (shape_shaped m shape) (answered (refusal_number r) why)
      where
        answered : (k : ℕ) → Refusal n x pr k → (call s (Deliver i)).answer ≡ Refused k
        answered k (inl (e, f)) = ap (λ (r : Result). r.answer) (passed f) ∙ ap Refused (sym e)
        answered k (inr (e, f, g)) = ap (λ (r : Result). r.answer) (call_is f ∙ check_yes _ 7 s _ (ap not g)) ∙ ap Refused (sym e)

    -- ---- it may be made

    module _ (r : Rollback) (G : Going (input_at m q) (output_at m q) (own_at m q) n x r) where
      cancelled_is : r.cancelled ≡ length (sent_from t pr.output)
      cancelled_is = omega (arith, G.rolled.cancelled_sends, G.rolled.sends_kept.many_after, length-take-le (number (own_at m q) 1) (output_at m q) (omega (arith, sound.ordered.few_sends, sound.ordered.output_rows)))

      pub few : (r.undone ≤ 32) × (r.cancelled ≤ 64)
      few = (
        omega (arith, G.rolled.undone_events, length_keep (λ (e : Saved). leb t e.time) pr.history, lawful_here.history_room),
        omega (arith, G.rolled.cancelled_sends, sound.ordered.few_sends),
      )

      call_done : call s (Deliver i) ≡ done (Delivered r.undone r.cancelled) (cut_state s i x)
      call_done =
          let roomy : room n x pr ≡ true = rw (← cancelled_is, le-leb (n - 1 + r.cancelled) 128 G.transit_room, le-leb (length (arrival x pr)) 64 G.input_room) in
          call_is G.nets ∙ check_no _ 7 s _ (ap not roomy) ∙ rw (G.rolled.undone_events, cancelled_is)

      -- ---- the memory that is left: the rows of the receiver, then the rows in transit and the numbers of the whole

      module _ (inputs' transit' own' : Rows) (C : Carried (input_at m q) (output_at m q) m.transit (own_at m q) n i x r inputs' transit' own')
          (input_rows : length inputs' ≡ length (input_at m q)) (transit-rows : length transit' ≡ length m.transit) (own_rows : length own' ≡ length (own_at m q))
          (row : List ℕ) (W : row ≡ with_mails (get_or (whole m) 0 []) (n - 1 + r.cancelled)) where
        abbrev received : Memory
        received = with_rows m q own' inputs' (output_at m q)

        received_shape : Shape received
        received_shape =
            let a = shape.at q known in
            rows_shape m shape q known own' inputs' (output_at m q) (own_rows ∙ a.own) (input_rows ∙ a.inputs) a.outputs C.few_entries C.few_sends C.few_events

        abbrev numbers : Rows
        numbers = set (whole received) 0 row

        first : get_or numbers 0 [] ≡ with_mails (get_or (whole m) 0 []) (n - 1 + r.cancelled)
        first = get_or-set_same (whole received) 0 row [] (omega (arith, received_shape.numbers)) ∙ W

        abbrev after : Memory
        after = record { model = m.model; inputs = set m.inputs q inputs'; outputs = m.outputs; transit = transit'; own = set received.own 8 numbers }

        outputs_same : with_whole received transit' numbers ≡ after
        outputs_same = ap (λ (o : Table). record { model = m.model; inputs = set m.inputs q inputs'; outputs = o; transit = transit'; own = set received.own 8 numbers }) (set-get_or m.outputs q [])

        after_shape : Shape after
        after_shape = subst Shape outputs_same (whole_shape received received_shape transit' numbers (transit-rows ∙ shape.transit) (length-set (whole received) 0 row ∙ received_shape.numbers) (rw first G.transit_room))

        processes_are : set s.processes q (process_of own' inputs' (output_at m q)) ≡ (cut_state s i x).processes
        processes_are = ap₂ (set s.processes) Q (C.process ∙ ap (λ (o : Process). met x (rolled_back t o).kept) (sym receiver_is))

        transit_is : mails transit' (n - 1 + r.cancelled) ≡ (cut_state s i x).transit
        unfolding state_of
        transit_is = C.mail ∙ ap₂ (λ (k : ℕ) (o : Process). without i (mails m.transit k) ++ map minus (sent_from t o.output)) N (sym receiver_is)

        state_is : cut_state s i x ≡ state_of after
        unfolding state_of
        state_is =
            let e = rows_state m shape q known own' inputs' (output_at m q) in
            sym (ap state_of (sym outputs_same) ∙ whole_state received received_shape transit' numbers
            ∙ same_state
            (ap (λ (a : State). a.model) e)
            (ap (λ (a : State). a.processes) e ∙ processes_are)
            (ap (λ (w : List ℕ). mails transit' (get_or w 0 0)) first ∙ transit_is)
            (ap (λ (w : List ℕ). get_or w 1 0) first)
            (ap (λ (w : List ℕ). get_or w 2 0) first)
            (ap (λ (w : List ℕ). get_or w 3 0) first))

        pub kept_go : Kept m (Deliver i) (Delivered r.undone r.cancelled) after
        kept_go =
            let result : call s (Deliver i) ≡ done (Delivered r.undone r.cancelled) (state_of after) = call_done ∙ ap (done (Delivered r.undone r.cancelled)) state_is in
            kept_done m (Deliver i) after _ [] [] (shape_shaped m shape) refl result
            (shape_lawful after after_shape (ap (λ (o : Result). bad o.after) (sym result) ∙ kept s (lawful_sane m l) (Deliver i) refl))
