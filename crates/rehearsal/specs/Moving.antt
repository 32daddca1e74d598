-- What a program that moves a turn's bytes relies on: what was printed lies within the text, and the next call stands further on in the input.
use Rattle.std.specs.Prelude.{◌≡◌, refl, List, drop, take}
use Rattle.std.proofs.Math.Path.{ap}
use Prim.Native.Nat.{ℕ, zero, suc, ◌+◌, ◌≤◌, ◌<◌}
use native.Mathlib.Omega.{arith}
use Rattle.std.proofs.Math.ListN.{length, length-append}
use Rattle.definition.specs.Record.{onto}
use Rattle.definition.specs.Model.{Model}
use Rattle.definition.specs.ModelBytes.{Parsed, Got, Fault, model_in}
use Rattle.definition.specs.State.{State}
use Rattle.runfile.specs.Reading.{head_of, head_within}
use Rattle.memory.specs.Memory.{Memory, state_of}
use Rattle.rehearsal.specs.Turns.{Turn, head_turn, model_turn, first_turn, turn_at, turn_later}
use Rattle.rehearsal.specs.Promise.{Progress, Printed, Refused, due_by, first_refusal, first_due, turn_refusal, turn_due, Prints, Begins}

-- how far the text is printed, and the place of the next call in an input of this length: its end after a refusal
abbrev pub end_of : Progress → ℕ
end_of (Printed end next) = end
end_of (Refused n) = 0

abbrev pub next_of : Progress → ℕ → ℕ
next_of (Printed end next) input = next
next_of (Refused n) input = input

pub record Moves (a : Progress) (text input : ℕ) : Type 0 where
  pub end : end_of a ≤ text
  pub next : next_of a input ≤ input

module _ (m : Memory) (turn : Turn) where
  due_moves : (n : ℕ) {a : Progress} {w : Memory} {before after : List ℕ} (input : ℕ) → Prints m (due_by m turn n) a w before after → turn.next ≤ input → Moves a (length after) input
  unfolding onto
  due_moves zero {before = before} input p l = rw p.answer (record {
    end = omega (arith, ap length p.text, length-append turn.lines (drop (length turn.lines) before));
    next = l;
  })
  due_moves (suc n) input p l = rw p.answer (record { end = omega arith; next = omega arith })

  due_later : (n : ℕ) {a : Progress} {w : Memory} {before after : List ℕ} {at input : ℕ} → Prints m (due_by m turn n) a w before after → at < turn.next → at < input → at < next_of a input
  due_later zero p l h = rw p.answer l
  due_later (suc n) p l h = rw p.answer h

-- the place from which it goes on after a turn: that of the next call, or the end of the input, where nothing can be written
pub data GoesOn (a : Progress) (input : ℕ) : ℕ → Type 0 where
  at_next : GoesOn a input (next_of a input)
  at_end : GoesOn a input input

pub goes_later : {a : Progress} {input at r : ℕ} → GoesOn a input r → at < next_of a input → at < input → at < r
goes_later at_next h k = h
goes_later at_end h k = k

-- the first turn
first_next : (bs : List ℕ) (s : State) → (first_turn bs s).next ≤ length bs
unfolding first_turn
first_next bs s = go (head_of bs) refl
  where
    by : (at size : ℕ) → at + size ≤ length bs → (p : Parsed Model) → (model_turn bs s at size p).next ≤ length bs
    by at size h (Got M next) = h
    by at size h (Fault n place) = omega arith

    go : (h : Parsed ℕ) → head_of bs ≡ h → (head_turn bs s h).next ≤ length bs
    go (Got at size) e = by at size (head_within bs at size e).0 (model_in (take size (drop at bs)))
    go (Fault n at) e = omega arith

pub first_moves : {m : Memory} {bs : List ℕ} {a : Progress} {w : Memory} {before after : List ℕ} → Begins m bs a w before after → Moves a (length after) (length bs)
unfolding first_due
first_moves {m} {bs} {before = before} b = due_moves m (first_turn bs (state_of m)) (first_refusal m (length before)) (length bs) b.prints (first_next bs (state_of m))

-- a turn in the input
module _ (m : Memory) (bs : List ℕ) (at : ℕ) {a : Progress} {w : Memory} {before after : List ℕ} (h : at < length bs) (p : Prints m (turn_due m (length before) bs at) a w before after) where
  pub turn_moves : Moves a (length after) (length bs)
  unfolding turn_due
  turn_moves = due_moves m (turn_at bs (state_of m) at) (turn_refusal m (length before) bs) (length bs) p (turn_later bs (state_of m) at h).1

  pub turn_onward : at < next_of a (length bs)
  unfolding turn_due
  turn_onward = due_later m (turn_at bs (state_of m) at) (turn_refusal m (length before) bs) p (turn_later bs (state_of m) at h).0 h
