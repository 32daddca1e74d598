-- What the program prints, turn by turn: first the model's line, then the lines of one call after another, or a fault's line, which is the last.
-- `program` says that the turns' lines, joined, are all that the definition prints.
use Rattle.std.specs.Prelude.{◌≡◌, Bool, length, take, drop}
use Rattle.std.proofs.Math.Path.{refl, sym, ap}
use Rattle.std.proofs.Common.{◌∙◌, le-leb}
use Rattle.std.proofs.Math.Bool.{true, false, cond}
use mathlib.Core.List.{List, [], ◌++◌, append-nil}
use Prim.Native.Nat.{ℕ, zero, suc, ◌+◌, ◌≤◌, ◌<◌}
use native.Mathlib.Omega.{arith}
use Rattle.std.proofs.lemmas.Bool.{lt-leb}
use Rattle.std.proofs.Math.Dec.{leb}
use Rattle.definition.specs.declared.Call.{Call}
use Rattle.definition.specs.Model.{Model}
use Rattle.definition.specs.ModelBytes.{Parsed, Got, Fault, model_in}
use Rattle.definition.specs.State.{State}
use Rattle.definition.specs.Calls.{started}
use Rattle.definition.specs.BadState.{call}
use Rattle.definition.specs.Program.{file_text, model_text, call_text, fault_line, model_line, call_lines, call_at, or_fault, calls_from, model_from, printed}
use Rattle.runfile.specs.Reading.{head_of, head_lines, printed_head}
use Rattle.runfile.specs.Places.{call_placed}

-- what a turn prints, the place of the next call, and the state that it leaves
pub record Turn : Type 0 where
  pub lines : List ℕ
  pub next : ℕ
  pub after : State

-- "A file fault ends it": nothing is left of the input, and the state is as it was
abbrev pub ended : List ℕ → State → List ℕ → Turn
ended bs s lines = record { lines = lines; next = length bs; after = s }

-- ---- the first turn

abbrev pub model_turn : List ℕ → State → ℕ → ℕ → Parsed Model → Turn
model_turn bs s at size (Got M next) = record { lines = model_line (length M); next = at + size; after = started M }
model_turn bs s at size (Fault n place) = ended bs s (fault_line model_text n (at + place))

abbrev pub head_turn : List ℕ → State → Parsed ℕ → Turn
head_turn bs s (Got at size) = model_turn bs s at size (model_in (take size (drop at bs)))
head_turn bs s (Fault n at) = ended bs s (fault_line file_text n at)

unfoldable pub first_turn : List ℕ → State → Turn
unfolding head_of model_in started
first_turn bs s = head_turn bs s (head_of bs)

-- ---- the turn of the call at a place

abbrev pub call_turn : List ℕ → State → Parsed Call → Turn
call_turn bs s (Got c next) = record { lines = call_lines c (call s c); next = next; after = (call s c).after }
call_turn bs s (Fault n place) = ended bs s (fault_line call_text n place)

-- at the end of the input nothing is left to do
unfoldable pub turn_at : List ℕ → State → ℕ → Turn
unfolding call_at
turn_at bs s at = cond (leb (length bs) at) (record { lines = []; next = at; after = s }) (call_turn bs s (call_at bs at))

-- ---- all turns

-- the lines of the calls from a place on, turn by turn to the end; n is at least as many as are left
unfoldable pub turns_from : ℕ → List ℕ → State → ℕ → List ℕ
unfolding turn_at
turns_from zero bs s at = []
turns_from (suc n) bs s at = cond (leb (length bs) at) [] ((turn_at bs s at).lines ++ turns_from n bs (turn_at bs s at).after (turn_at bs s at).next)

module _ (bs : List ℕ) where
  pub turn_over : (s : State) (at : ℕ) → length bs ≤ at → turn_at bs s at ≡ record { lines = []; next = at; after = s }
  unfolding turn_at
  turn_over s at h = rw (le-leb (length bs) at h)

  pub turn_on : (s : State) (at : ℕ) → at < length bs → turn_at bs s at ≡ call_turn bs s (call_at bs at)
  unfolding turn_at
  turn_on s at h = rw (lt-leb (length bs) at h)

  -- a turn goes on, and not past the end
  pub turn_later : (s : State) (at : ℕ) → at < length bs → (at < (turn_at bs s at).next) × ((turn_at bs s at).next ≤ length bs)
  turn_later s at h = rw (turn_on s at h) (go (call_at bs at) refl)
    where
      go : (p : Parsed Call) → call_at bs at ≡ p → (at < (call_turn bs s p).next) × ((call_turn bs s p).next ≤ length bs)
      go (Got c next) e = call_placed bs at (omega arith) c next e
      go (Fault n place) e = (h, omega arith)

  -- nothing is printed at the end
  pub turns_over : (n : ℕ) (s : State) (at : ℕ) → length bs ≤ at → turns_from n bs s at ≡ []
  unfolding turns_from
  turns_over zero s at h = refl
  turns_over (suc n) s at h = rw (le-leb (length bs) at h)

  pub turns_on : (n : ℕ) (s : State) (at : ℕ) → at < length bs
      → turns_from (suc n) bs s at ≡ (turn_at bs s at).lines ++ turns_from n bs (turn_at bs s at).after (turn_at bs s at).next
  unfolding turns_from
  turns_on n s at h = rw (lt-leb (length bs) at h)

  -- turn by turn is what the definition prints
  turns : (n : ℕ) (s : State) (at : ℕ) → turns_from n bs s at ≡ calls_from n bs s at
  unfolding turns_from calls_from turn_at
  turns zero s at = refl
  turns (suc n) s at = go (leb (length bs) at) refl (call_at bs at) (λ t next. turns n t next)
    where
      go : (b : Bool) → leb (length bs) at ≡ b → (p : Parsed Call) → ((t : State) (next : ℕ) → turns_from n bs t next ≡ calls_from n bs t next)
          → cond b [] ((cond b (record { lines = []; next = at; after = s }) (call_turn bs s p)).lines
          ++ turns_from n bs (cond b (record { lines = []; next = at; after = s }) (call_turn bs s p)).after (cond b (record { lines = []; next = at; after = s }) (call_turn bs s p)).next)
          ≡ cond b [] (or_fault call_text 0 p (λ c next. call_lines c (call s c) ++ calls_from n bs (call s c).after next))
      go true e p ih = refl
      go false e (Got c next) ih = ap (λ (l : List ℕ). call_lines c (call s c) ++ l) (ih (call s c).after next)
      go false e (Fault m place) ih =
          ap (λ (l : List ℕ). fault_line call_text m place ++ l) (turns_over n s (length bs) (omega arith)) ∙ append-nil (fault_line call_text m place) ∙ ap (fault_line call_text m) (let z : place ≡ 0 + place = omega arith in z)

  -- the first turn's lines and those of the turns after it are all that the program prints
  pub program : (s : State) → (first_turn bs s).lines ++ turns_from (length bs) bs (first_turn bs s).after (first_turn bs s).next ≡ printed bs
  unfolding first_turn model_from
  program s = go (head_of bs) ∙ sym (printed_head bs)
    where
      last : (lines : List ℕ) → lines ++ turns_from (length bs) bs s (length bs) ≡ lines
      last lines = ap (λ (l : List ℕ). lines ++ l) (turns_over (length bs) s (length bs) (omega arith)) ∙ append-nil lines

      by : (at size : ℕ) (p : Parsed Model)
          → (model_turn bs s at size p).lines ++ turns_from (length bs) bs (model_turn bs s at size p).after (model_turn bs s at size p).next
          ≡ or_fault model_text at p (λ M next. model_line (length M) ++ calls_from (length bs) bs (started M) (at + size))
      by at size (Got M next) = ap (λ (l : List ℕ). model_line (length M) ++ l) (turns (length bs) (started M) (at + size))
      by at size (Fault n place) = last (fault_line model_text n (at + place))

      go : (h : Parsed ℕ) → (head_turn bs s h).lines ++ turns_from (length bs) bs (head_turn bs s h).after (head_turn bs s h).next ≡ head_lines bs h
      go (Got at size) = by at size (model_in (take size (drop at bs)))
      go (Fault n at) = last (fault_line file_text n at)
