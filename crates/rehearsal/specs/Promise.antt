-- What a turn of the program promises, on every memory, every text and every input: what is due is a function of them, so there is one answer, one
-- text and one state.
use Rattle.std.specs.Prelude.{◌≡◌, Bool, true, false, cond, ◌&&◌, List, [], ℕ, zero, suc, ltb, length, take, drop, Result, Ok, Err}
use Rattle.std.proofs.Common.{sym, ap, ap₂, ◌∙◌, arith}
use Rattle.definition.specs.Model.{Model}
use Rattle.definition.specs.ModelBytes.{Parsed, Got, Fault, model_in}
use Rattle.definition.specs.State.{State}
use Rattle.definition.specs.Record.{onto}
use Rattle.runfile.specs.Reading.{head_of}
use Rattle.model.specs.Stored.{has_room}
use Rattle.memory.specs.Memory.{Memory, state_of, lawful}
use Rattle.memory.specs.Promise.{sized_for}
use Rattle.lines.specs.Promise.{longest}
use Rattle.definition.specs.declared.refusal.Refusal.{Refusal}
use Rattle.definition.specs.Answer.{refusal_number, one_refusal}
use Rattle.rehearsal.specs.declared.Printed.{Printed as Said}
use Rattle.rehearsal.specs.Turns.{Turn, first_turn, turn_at}

-- ---- what is due

-- how many bytes of text are printed, and the place of the next call; or the number of the refusal
pub data Progress : Type 0 where
  Printed : ℕ → ℕ → Progress
  Refused : ℕ → Progress

-- what a turn of the code answers
abbrev pub progress : Result Said Refusal → Progress
progress (Ok p) = Printed p.end p.next
progress (Err r) = Refused (refusal_number r)

-- an answer is settled by what it says
pub one_progress : (r s : Result Said Refusal) → progress r ≡ progress s → r ≡ s
one_progress (Ok p) (Ok q) e =
    let end : p.end ≡ q.end = cc in
    let next : p.next ≡ q.next = cc in
    ap₂ (λ (end next : ℕ). Ok (record { end = end; next = next })) end next
one_progress (Ok p) (Err s) e = let z : ◌≡◌ {A = ℕ} 0 1 = cc in absurd (omega arith)
one_progress (Err r) (Ok q) e = let z : ◌≡◌ {A = ℕ} 0 1 = cc in absurd (omega arith)
one_progress (Err r) (Err s) e = let same : refusal_number r ≡ refusal_number s = cc in ap Err (one_refusal r s same)

pub record Due : Type 0 where
  pub answer : Progress
  pub lines : List ℕ
  pub state : State

-- a turn, or the refusal by a number; 0 stands for none
abbrev pub due_by : Memory → Turn → ℕ → Due
due_by m turn zero = record { answer = Printed (length turn.lines) turn.next; lines = turn.lines; state = turn.after }
due_by m turn (suc n) = record { answer = Refused (suc n); lines = []; state = state_of m }

-- 16 where the lists have not their lengths; 8 where the text is shorter than it may have to be
unfoldable pub first_refusal : Memory → ℕ → ℕ
unfolding has_room sized_for
first_refusal m room = cond (has_room m.model && sized_for 8 m.inputs m.outputs m.transit m.own) (cond (ltb room longest) 8 0) 16

unfoldable pub first_due : Memory → ℕ → List ℕ → Due
unfolding first_refusal first_turn state_of
first_due m room bs = due_by m (first_turn bs (state_of m)) (first_refusal m room)

-- 16 where the memory is not lawful; 8 as before; 15 where the input is too long
unfoldable pub turn_refusal : Memory → ℕ → List ℕ → ℕ
unfolding lawful
turn_refusal m room bs = cond (lawful m) (cond (ltb room longest) 8 (cond (ltb 65_536 (length bs)) 15 0)) 16

unfoldable pub turn_due : Memory → ℕ → List ℕ → ℕ → Due
unfolding turn_refusal turn_at state_of
turn_due m room bs at = due_by m (turn_at bs (state_of m) at) (turn_refusal m room bs)

-- ---- the promise

abbrev pub is_refusal : Progress → Bool
is_refusal (Printed end next) = false
is_refusal (Refused n) = true

-- these lines are said, and the next call stands at this place
pub record Says (lines : List ℕ) (next : ℕ) (a : Progress) (before after : List ℕ) : Type 0 where
  pub answer : a ≡ Printed (length lines) next
  pub text : after ≡ onto lines before

-- m the memory at entry, w at exit; `before` the text at entry, `after` at exit: the lines stand at its start, and bytes after them keep their values
pub record Prints (m : Memory) (d : Due) (a : Progress) (w : Memory) (before after : List ℕ) : Type 0 where
  pub answer : a ≡ d.answer
  pub text : after ≡ onto d.lines before
  pub state : state_of w ≡ d.state
  pub same : is_refusal a ≡ true → w ≡ m
  pub lawful_again : lawful m ≡ true → lawful w ≡ true

-- the model that stands in the input, or the fault of the file or of the model
abbrev pub model_by : List ℕ → Parsed ℕ → Parsed Model
model_by bs (Got at size) = model_in (take size (drop at bs))
model_by bs (Fault n at) = Fault n at

-- a model that was read has been started: the memory is lawful, whatever it was before; a fault leaves every lent word
pub record Begins (m : Memory) (bs : List ℕ) (a : Progress) (w : Memory) (before after : List ℕ) : Type 0 where
  pub prints : Prints m (first_due m (length before) bs) a w before after
  pub fault_same : (n place : ℕ) → model_by bs (head_of bs) ≡ Fault n place → w ≡ m
  pub lawful_first : is_refusal a ≡ false → (M : Model) (next : ℕ) → model_by bs (head_of bs) ≡ Got M next → lawful w ≡ true

-- the promise admits one answer, one text and one state
pub one_answer : (m : Memory) (d : Due) (a b : Progress) (w v : Memory) (before x y : List ℕ) → Prints m d a w before x → Prints m d b v before y
    → (a ≡ b) × (x ≡ y) × (state_of w ≡ state_of v)
one_answer m d a b w v before x y h k = (h.answer ∙ sym k.answer, h.text ∙ sym k.text, h.state ∙ sym k.state)

pub one_beginning : (m : Memory) (bs : List ℕ) (a b : Progress) (w v : Memory) (before x y : List ℕ) → Begins m bs a w before x → Begins m bs b v before y
    → (a ≡ b) × (x ≡ y) × (state_of w ≡ state_of v)
one_beginning m bs a b w v before x y h k = one_answer m (first_due m (length before) bs) a b w v before x y h.prints k.prints
