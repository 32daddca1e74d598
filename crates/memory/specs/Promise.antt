-- What every call promises, in one record, on every memory; and what a start promises, in another.
use Rattle.std.specs.Prelude.{◌≡◌, Bool, true, false, not, ◌&&◌, List, [], ℕ, eqb, length, get_or}
use Rattle.std.proofs.Common.{sym, ◌∙◌}
use Rattle.definition.specs.Answer.{Answer, Refused, Started, Injected, Delivered, Executed, Advanced}
use Rattle.definition.specs.declared.Call.{Call}
use Rattle.definition.specs.Record.{onto}
use Rattle.definition.specs.Calls.{Result, check, start}
use Rattle.definition.specs.BadState.{call}
use Rattle.rule.specs.Rows.{processes_of, model_of, shaped_model}
use Rattle.memory.specs.Memory.{Memory, all_of, state_of, shaped, lawful, Table, Rows}

abbrev pub is_refusal : Answer → Bool
is_refusal (Refused n) = true
is_refusal Started = false
is_refusal Injected = false
is_refusal (Delivered undone cancelled) = false
is_refusal (Executed time read sent) = false
is_refusal (Advanced horizon entries bytes) = false

-- What is due: 16 where the memory has not its shape, else what the definition says of the state that the memory says. (Its own first test is
-- BadState.) A function of memory and call: so one answer, one state and one list of bytes is due
unfoldable pub due : Memory → Call → Result
unfolding shaped state_of call check
due m c = check (not (shaped m)) 16 (state_of m) (call (state_of m) c)

-- The promise of a call: m the memory at entry, a the answer, w the memory at exit
pub record Kept (m : Memory) (c : Call) (a : Answer) (w : Memory) : Type 0 where
  pub answer : a ≡ (due m c).answer
  pub state : state_of w ≡ (due m c).after
  pub same : is_refusal a ≡ true → w ≡ m
  pub lawful_again : lawful m ≡ true → lawful w ≡ true

-- an advance also writes: b is the buffer at entry, d the buffer at exit
pub record Committed (m : Memory) (c : Call) (a : Answer) (w : Memory) (b d : List ℕ) : Type 0 where
  pub kept : Kept m c a w
  pub buffer : d ≡ onto (due m c).bytes b

-- what a call asks of the memory that it is lent
abbrev pub Ready : Memory → Type 0
Ready m = lawful m ≡ true

-- the promise admits one answer and one state
pub one_answer : (m : Memory) (c : Call) (a b : Answer) (w v : Memory) → Kept m c a w → Kept m c b v → (a ≡ b) × (state_of w ≡ state_of v)
one_answer m c a b w v h k = (h.answer ∙ sym k.answer, h.state ∙ sym k.state)

-- and an advance one list of bytes too
pub one_record : (m : Memory) (c : Call) (a b : Answer) (w v : Memory) (before x y : List ℕ) → Committed m c a w before x → Committed m c b v before y
    → (a ≡ b) × (state_of w ≡ state_of v) × (x ≡ y)
one_record m c a b w v before x y h k = let one = one_answer m c a b w v h.kept k.kept in (one.0, one.1, h.buffer ∙ sym k.buffer)

-- ---- start

-- the lists are as long as they must be, whatever they say: of one process its input rows, its output rows and its own rows; and of the first n
abbrev pub sized_rows : Rows → Rows → Rows → Bool
sized_rows inputs outputs own = eqb (length inputs) 64 && (eqb (length outputs) 64 && eqb (length own) 33)

unfoldable pub sized_for : ℕ → Table → Table → Rows → Table → Bool
unfolding all_of
sized_for n inputs outputs transit own =
    eqb (length inputs) 8 && (eqb (length outputs) 8 && (eqb (length transit) 128 && (eqb (length own) 9 && (eqb (length (get_or own 8 [])) 33
    && all_of 0 n (λ p. sized_rows (get_or inputs p []) (get_or outputs p []) (get_or own p []))))))

-- of all processes of the model
abbrev pub sized : Memory → Bool
sized m = sized_for (processes_of m.model) m.inputs m.outputs m.transit m.own

-- What is due of a start: 16 where the model's rows or the lists have not their lengths, else what the definition says of the model
unfoldable pub due_start : Memory → Result
unfolding shaped_model sized_for state_of start check
due_start m = check (not (shaped_model m.model && sized m)) 16 (state_of m) (start (state_of m) (model_of m.model))

-- The promise of a start: m the memory at entry, a the answer, w the memory at exit
pub record Begun (m : Memory) (a : Answer) (w : Memory) : Type 0 where
  pub answer : a ≡ (due_start m).answer
  pub state : state_of w ≡ (due_start m).after
  pub same : is_refusal a ≡ true → w ≡ m
  pub lawful_first : is_refusal a ≡ false → lawful w ≡ true

pub one_start : (m : Memory) (a b : Answer) (w v : Memory) → Begun m a w → Begun m b v → (a ≡ b) × (state_of w ≡ state_of v)
one_start m a b w v h k = (h.answer ∙ sym k.answer, h.state ∙ sym k.state)
