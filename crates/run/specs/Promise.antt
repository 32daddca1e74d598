-- What a run promises, on every input and every memory. What is due is a function of them: the calls that are made (Made.antt), and what the
-- definition says of the rehearsal of the model with those calls. So there is one answer, one state, one list of rows and one record. And the
-- demands of document 01 are stated of this very rehearsal.
use Rattle.std.specs.Prelude.{◌≡◌, refl, Bool, true, false, List, [], ◌++◌, ℕ, ◌+◌, ◌≤◌, ltb, length, take, drop, set, Result, Ok, Err}
use Rattle.std.proofs.Common.{sym, ap, ◌∙◌, arith}
use Rattle.definition.specs.declared.Call.{Call}
use Rattle.definition.specs.Model.{Model}
use Rattle.definition.specs.State.{State}
use Rattle.definition.specs.declared.Event.{Event}
use Rattle.definition.specs.Lists.{keep}
use Rattle.definition.specs.Record.{bytes_of, onto}
use Rattle.definition.specs.Run.{run_events}
use Rattle.definition.specs.Calls.{started}
use Rattle.definition.specs.BadState.{call}
use Rattle.definition.specs.Rehearsal.{Rehearsal, calls, rehearsal}
use Rattle.demands.specs.Demands.{DemandTwo, DemandThree}
use Rattle.rule.specs.Rows.{model_of}
use Rattle.memory.specs.Memory.{Memory, state_of, lawful, Rows}
use Rattle.memory.specs.Promise.{is_refusal, due_start}
use Rattle.definition.specs.declared.refusal.Refusal.{Refusal}
use Rattle.definition.specs.Answer.{refusal_number, one_refusal}
use Rattle.run.specs.declared.Ran.{Ran as Counts}
use Rattle.run.specs.Made.{Made, made}
use Rattle.run.specs.Rows.{row_of, rows_of}

-- ---- a run

-- how many calls were made, the place of the next, and how many bytes of the record were written; or the number of the refusal
pub data Ran : Type 0 where
  Done : ℕ → ℕ → ℕ → Ran
  Refused : ℕ → Ran

-- what a run of the code answers
abbrev pub ran : Result Counts Refusal → Ran
ran (Ok x) = Done x.calls x.next x.recorded
ran (Err r) = Refused (refusal_number r)

ran_out : Ran → Result Counts ℕ
ran_out (Done calls next recorded) = Ok (record { calls = calls; next = next; recorded = recorded })
ran_out (Refused n) = Err n

numbered : Result Counts Refusal → Result Counts ℕ
numbered (Ok x) = Ok x
numbered (Err r) = Err (refusal_number r)

ran_back : (r : Result Counts Refusal) → ran_out (ran r) ≡ numbered r
unfolding ran_out numbered
ran_back (Ok x) = refl
ran_back (Err r) = refl

one_numbered : (r s : Result Counts Refusal) → numbered r ≡ numbered s → r ≡ s
unfolding numbered
one_numbered (Ok x) (Ok y) e = let same : x ≡ y = cc in ap Ok same
one_numbered (Ok x) (Err s) e = let z : ◌≡◌ {A = ℕ} 0 1 = cc in absurd (omega arith)
one_numbered (Err r) (Ok y) e = let z : ◌≡◌ {A = ℕ} 0 1 = cc in absurd (omega arith)
one_numbered (Err r) (Err s) e = let same : refusal_number r ≡ refusal_number s = cc in ap Err (one_refusal r s same)

-- an answer is settled by what it says
pub one_ran : (r s : Result Counts Refusal) → ran r ≡ ran s → r ≡ s
one_ran r s e = one_numbered r s (sym (ran_back r) ∙ ap ran_out e ∙ ran_back s)

-- the start is refused: nothing is written
pub record Untouched (m : Memory) (a : Ran) (w : Memory) (answers answers' : Rows) (committed committed' : List ℕ) : Type 0 where
  pub answer : a ≡ Refused 16
  pub same : w ≡ m
  pub rows : answers' ≡ answers
  pub bytes : committed' ≡ committed

-- These calls were made, from a state s on, and z is their rehearsal. The state is z's; the rows of the answers stand first, and rows after them keep
-- their values; the record of z stands first, and bytes after it keep their values
pub record Worked (z : Rehearsal) (s : State) (x : Made) (a : Ran) (w : Memory) (answers answers' : Rows) (committed committed' : List ℕ) : Type 0 where
  pub answer : a ≡ Done (length x.calls) x.next (length z.bytes)
  pub state : state_of w ≡ z.state
  pub rows : answers' ≡ rows_of s x.calls ++ drop (length x.calls) answers
  pub bytes : committed' ≡ onto z.bytes committed
  pub lawful_again : lawful w ≡ true

-- They are the rehearsal of the model M with these calls, and demands 2 and 3 hold of it, the latter with whatever calls come later
pub record Rehearsed (M : Model) (x : Made) (a : Ran) (w : Memory) (answers answers' : Rows) (committed committed' : List ℕ) : Type 0 where
  pub worked : Worked (rehearsal M x.calls) (started M) x a w answers answers' committed committed'
  pub demand_two : DemandTwo M (rehearsal M x.calls)
  pub demand_three : (later : List Call) → DemandThree M (rehearsal M x.calls) (rehearsal M (x.calls ++ later))

-- the calls that are made on a start
abbrev pub calls_due : List ℕ → Memory → Rows → List ℕ → Made
calls_due bs m answers committed = made (length answers) (length committed) bs (started (model_of m.model)) 0

-- The promise: bs the input, m the memory at entry, a the answer, w the memory at exit, and the rows and the record at entry and at exit
pub record Runs (bs : List ℕ) (m : Memory) (a : Ran) (w : Memory) (answers answers' : Rows) (committed committed' : List ℕ) : Type 0 where
  pub refused : is_refusal (due_start m).answer ≡ true → Untouched m a w answers answers' committed committed'
  pub rehearsed : is_refusal (due_start m).answer ≡ false → Rehearsed (model_of m.model) (calls_due bs m answers committed) a w answers answers' committed committed'

-- the promise admits one answer, one state, one list of rows and one record
pub one_answer : (bs : List ℕ) (m : Memory) (a b : Ran) (w v : Memory) (answers x y : Rows) (committed d e : List ℕ)
    → Runs bs m a w answers x committed d → Runs bs m b v answers y committed e → (a ≡ b) × (state_of w ≡ state_of v) × (x ≡ y) × (d ≡ e)
one_answer bs m a b w v answers x y committed d e h k = go (is_refusal (due_start m).answer) refl
  where
    go : (refused : Bool) → is_refusal (due_start m).answer ≡ refused → (a ≡ b) × (state_of w ≡ state_of v) × (x ≡ y) × (d ≡ e)
    go true is =
        let f = h.refused is in
        let g = k.refused is in
        (f.answer ∙ sym g.answer, ap state_of (f.same ∙ sym g.same), f.rows ∙ sym g.rows, f.bytes ∙ sym g.bytes)
    go false is =
        let f = (h.rehearsed is).worked in
        let g = (k.rehearsed is).worked in
        (f.answer ∙ sym g.answer, f.state ∙ sym g.state, f.rows ∙ sym g.rows, f.bytes ∙ sym g.bytes)

-- demand 3 of the bytes that are handed back: they are the record, in house numbers, of the events of the one-after-another run of the accepted
-- requests that are earlier than the horizon of the state that is handed back; and bytes after them keep their values
pub record_is_the_run : {M : Model} {x : Made} {a : Ran} {w : Memory} {answers answers' : Rows} {committed committed' : List ℕ}
    → Rehearsed M x a w answers answers' committed committed'
    → committed' ≡ onto (bytes_of 0 (keep (λ (e : Event). ltb e.time (state_of w).horizon) (run_events M (rehearsal M x.calls).accepted))) committed
record_is_the_run {M} {x} {w = w} {committed = committed} h =
    let d = h.demand_three [] in
    let horizon : (rehearsal M x.calls).state.horizon ≡ (state_of w).horizon = ap (λ (s : State). s.horizon) (sym h.worked.state) in
    h.worked.bytes ∙ ap (λ (l : List ℕ). onto l committed) (d.bytes ∙ ap (bytes_of 0) (d.as_the_run
    ∙ ap (λ (t : ℕ). keep (λ (e : Event). ltb e.time t) (run_events M (rehearsal M x.calls).accepted)) horizon))

-- ---- its parts

-- a call on a lawful memory: its row stands at a place, and its bytes where the record ended, whose end is now n
pub record Turned (m : Memory) (c : Call) (n : ℕ) (w : Memory) (answers answers' : Rows) (place : ℕ) (committed committed' : List ℕ) (recorded : ℕ) : Type 0 where
  pub end : n ≡ recorded + length (call (state_of m) c).bytes
  pub within : n ≤ length committed
  pub state : state_of w ≡ (call (state_of m) c).after
  pub rows : answers' ≡ set answers place (row_of (call (state_of m) c).answer)
  pub bytes : committed' ≡ take recorded committed ++ onto (call (state_of m) c).bytes (drop recorded committed)
  pub lawful_again : lawful w ≡ true

-- a rehearsal from a state on, with nothing recorded
abbrev pub from : State → Rehearsal
from s = record { state = s; accepted = []; events = []; bytes = [] }

-- the calls of the input, on a lawful memory with state s
abbrev pub Works : List ℕ → State → Ran → Memory → Rows → Rows → List ℕ → List ℕ → Type 0
Works bs s a w answers answers' committed committed' =
    let x : Made = made (length answers) (length committed) bs s 0 in
    Worked (calls (from s) x.calls) s x a w answers answers' committed committed'
