-- What a host in another language is told. The result of a function is document 01's number, 0 for none, and what else there is to tell is put into
-- lent words; a refusal puts nothing into words that hold values, and the place of a fault in bytes is part of the answer. Each promise names what is
-- due: a function of the memory, the bytes and the arguments at entry, so that one result, one list of words and one state keep it: `one_start`,
-- `one_call`, `one_run` and `one_model` say so.
use Rattle.std.specs.Prelude.{◌≡◌, cond, List, [], ◌∷◌, ℕ, length, get_or}
use Rattle.std.proofs.Common.{sym, ◌∙◌}
use Rattle.definition.specs.Answer.{Answer}
use Rattle.definition.specs.declared.Call.{Call}
use Rattle.definition.specs.declared.Event.{Event}
use Rattle.definition.specs.declared.Stand.{Stand}
use Rattle.definition.specs.Calls.{number_of, values_of}
use Rattle.definition.specs.Model.{Model}
use Rattle.definition.specs.ModelBytes.{Parsed, Got, Fault}
use Rattle.definition.specs.Rehearsal.{rehearsal}
use Rattle.rule.specs.Rows.{model_of}
use Rattle.memory.specs.Memory.{Memory, state_of, Table, Rows}
use Rattle.memory.specs.Promise.{is_refusal, due, Kept, one_answer, due_start, Begun, one_start as one-begun}
use Rattle.model.specs.Stored.{model_for, answered, Promise}
use Rattle.run.specs.Promise.{Ran}
use Rattle.run.specs.Promise.{Done as RanDone, Refused as RanRefused}
use Rattle.run.specs.Made.{Made}
use Rattle.run.specs.Promise.{calls_due, Runs, one_answer as one-rehearsed}
use Rattle.host.specs.Steps.{Stepped, Done, Refused}

-- ---- the calls

-- the values of an answer in three words, 0 after the last; a refusal has none and leaves the words as they were
abbrev pub in_words : List ℕ → List ℕ
in_words values = get_or values 0 0 ∷ get_or values 1 0 ∷ get_or values 2 0 ∷ []

abbrev pub words_after : Answer → List ℕ → List ℕ
words_after a before = cond (is_refusal a) before (in_words (values_of a))

-- a start and a call, m the memory at entry and w the memory at exit: the promise of the answer that is due, whose number is the result
pub record StartTold (m w : Memory) (r : ℕ) : Type 0 where
  pub begun : Begun m (due_start m).answer w
  pub number : r ≡ number_of (due_start m).answer

pub record Told (m : Memory) (c : Call) (w : Memory) (r : ℕ) : Type 0 where
  pub kept : Kept m c (due m c).answer w
  pub number : r ≡ number_of (due m c).answer

-- each admits one number and one state; the words and the bytes that are lent besides are settled by equations
pub one_start : (m w v : Memory) (r s : ℕ) → StartTold m w r → StartTold m v s → (r ≡ s) × (state_of w ≡ state_of v)
one_start m w v r s h k = (h.number ∙ sym k.number, (one-begun m _ _ w v h.begun k.begun).1)

pub one_call : (m : Memory) (c : Call) (w v : Memory) (r s : ℕ) → Told m c w r → Told m c v s → (r ≡ s) × (state_of w ≡ state_of v)
one_call m c w v r s h k = (h.number ∙ sym k.number, (one_answer m c _ _ w v h.kept k.kept).1)

-- ---- a run of many calls

-- the answer that is due: the start's refusal, or how many calls were made, the place of the next, and the length of their record
unfoldable pub ran_due : List ℕ → Memory → Rows → List ℕ → Ran
ran_due bs m answers committed =
    let x : Made = calls_due bs m answers committed in
    cond (is_refusal (due_start m).answer) (RanRefused 16)
    (RanDone (length x.calls) x.next (length (rehearsal (model_of m.model) x.calls).bytes))

-- its number, 0 for none, and its counts in three words; a refusal leaves them as they were
abbrev pub ran_number : Ran → ℕ
ran_number (RanDone calls next recorded) = 0
ran_number (RanRefused n) = n

abbrev pub counts_after : Ran → List ℕ → List ℕ
counts_after (RanDone calls next recorded) before = calls ∷ next ∷ recorded ∷ []
counts_after (RanRefused n) before = before

-- the promise of the answer that is due, whose number is the result: state, rows and record are those of the rehearsal of the calls that are made
pub record RunTold (bs : List ℕ) (m w : Memory) (answers answers' : Rows) (committed committed' : List ℕ) (r : ℕ) : Type 0 where
  pub runs : Runs bs m (ran_due bs m answers committed) w answers answers' committed committed'
  pub number : r ≡ ran_number (ran_due bs m answers committed)

-- it admits one number, one state, one list of rows and one record
pub one_run : (bs : List ℕ) (m w v : Memory) (answers x y : Rows) (committed d e : List ℕ) (r s : ℕ)
    → RunTold bs m w answers x committed d r → RunTold bs m v answers y committed e s → (r ≡ s) × (state_of w ≡ state_of v) × (x ≡ y) × (d ≡ e)
one_run bs m w v answers x y committed d e r s h k =
    let one = one-rehearsed bs m _ _ w v answers x y committed d e h.runs k.runs in
    (h.number ∙ sym k.number, one.1, one.2, one.3)

-- ---- what is read from bytes

-- the number of a fault, 0 for none
abbrev pub number_in : {A : Type 0} → Parsed A → ℕ
number_in (Got a next) = 0
number_in (Fault n at) = n

-- the count of an accepted model; a refusal leaves the word
abbrev pub count_after : Parsed Model → ℕ → ℕ
count_after (Got M next) before = length M
count_after (Fault n at) before = before

-- the place of a fault; an accepted model leaves the word
abbrev pub fault_after : {A : Type 0} → Parsed A → ℕ → ℕ
fault_after (Got a next) before = before
fault_after (Fault n at) before = at

-- the model that the bytes say stands in the rows, or the first fault is told and they are as they were
pub record ModelTold (bs : List ℕ) (before after : Table) (r : ℕ) : Type 0 where
  pub rows : Promise bs before after (answered (model_for bs before))
  pub number : r ≡ number_in (model_for bs before)

-- it admits one number and one table of rows
pub one_model : (bs : List ℕ) (before x y : Table) (r s : ℕ) → ModelTold bs before x r → ModelTold bs before y s → (r ≡ s) × (x ≡ y)
one_model bs before x y r s h k = (h.number ∙ sym k.number, h.rows.rows ∙ sym k.rows.rows)

-- an entry of the record in five words; a fault leaves them
abbrev pub in_entry : Event → List ℕ
in_entry e = e.time ∷ e.process ∷ e.read ∷ e.stand.mode ∷ e.stand.tally ∷ []

abbrev pub entry_after : Parsed Event → List ℕ → List ℕ
entry_after (Got e next) before = in_entry e
entry_after (Fault n at) before = before

-- the place of the next entry, or of the number at fault
abbrev pub place_of : {A : Type 0} → Parsed A → ℕ
place_of (Got a next) = next
place_of (Fault n at) = at

-- ---- the host's step

abbrev pub step_number : Stepped → ℕ
step_number Done = 0
step_number (Refused n) = n

abbrev pub stand : ℕ → ℕ → Stand
stand mode tally = record { mode = mode; tally = tally }
