-- The calls that a run makes: those that stand in the input one after the other, as long as a call can be read, a row is left for its answer, and
-- the room that is left of the record is an advance's buffer. They are a function of the input, the state and the two lengths.
use Rattle.std.proofs.Math.Path.{◌≡◌, refl}
use Rattle.std.proofs.Common.{ap, append_assoc}
use Rattle.std.specs.Prelude.{Bool, ◌||◌, List, [], ◌∷◌, ◌++◌, leb, ltb, length, Option, Some, None}
use Rattle.std.proofs.Math.Bool.{true, false, cond}
use Prim.Native.Nat.{ℕ, zero, suc, ◌-◌, ◌≤◌, ◌<◌}
use native.Mathlib.Omega.{arith}
use borrow.Author.Tests.{lt-ltb, le-ltb, le-leb, lt-leb}
use Rattle.definition.specs.declared.Call.{Call}
use Rattle.definition.specs.ModelBytes.{Parsed, Got, Fault}
use Rattle.definition.specs.State.{State}
use Rattle.definition.specs.BadState.{call}
use Rattle.definition.specs.Program.{buffer_length, call_at}

-- ---- one turn

abbrev pub turn_by : Parsed Call → Option (Call × ℕ)
turn_by (Got c next) = Some (c, next)
turn_by (Fault n place) = None

-- the call that is made at a place, with so many rows and so many bytes of the record left
unfoldable pub turn_of : List ℕ → ℕ → ℕ → ℕ → Option (Call × ℕ)
unfolding call_at
turn_of bs at zero room = None
turn_of bs at (suc rows) room = cond (ltb room buffer_length || leb (length bs) at) None (turn_by (call_at bs at))

module _ (bs : List ℕ) (at : ℕ) where
  pub turn_none : (rows room : ℕ) → rows ≡ 0 → turn_of bs at rows room ≡ None
  unfolding turn_of
  turn_none rows room e = rw e

  pub turn_short : (rows room : ℕ) → room < buffer_length → turn_of bs at rows room ≡ None
  unfolding turn_of
  turn_short zero room h = refl
  turn_short (suc rows) room h = rw (lt-ltb room buffer_length h)

  pub turn_end : (rows room : ℕ) → length bs ≤ at → turn_of bs at rows room ≡ None
  unfolding turn_of
  turn_end zero room h = refl
  turn_end (suc rows) room h = rw (le-leb (length bs) at h) (go (ltb room buffer_length))
    where
      go : (b : Bool) → cond (b || true) None (turn_by (call_at bs at)) ≡ None
      go true = refl
      go false = refl

  pub turn_read : (rows room : ℕ) → (rows ≡ 0 → ⊥) → buffer_length ≤ room → at < length bs → turn_of bs at rows room ≡ turn_by (call_at bs at)
  unfolding turn_of
  turn_read zero room some long left = absurd (some refl)
  turn_read (suc rows) room some long left = rw (le-ltb room buffer_length long, lt-leb (length bs) at left)

-- ---- all turns

-- the calls, and the place after them
pub record Made : Type 0 where
  pub calls : List Call
  pub next : ℕ

abbrev pub before : List Call → Made → Made
before cs x = record { calls = cs ++ x.calls; next = x.next }

abbrev pub made_by : ℕ → Option (Call × ℕ) → (Call → ℕ → Made) → Made
made_by at (Some x) f = before (x.0 ∷ []) (f x.0 x.1)
made_by at None f = record { calls = []; next = at }

-- from a place on, with so many rows and so many bytes left, on a state; what a call writes is room no more
unfoldable pub made : ℕ → ℕ → List ℕ → State → ℕ → Made
unfolding turn_of call
made zero room bs s at = record { calls = []; next = at }
made (suc rows) room bs s at =
    made_by at (turn_of bs at (suc rows) room) (λ c next. made rows (room - length (call s c).bytes) bs (call s c).after next)

module _ (bs : List ℕ) (s : State) (at : ℕ) where
  pub made_stop : (rows room : ℕ) → turn_of bs at rows room ≡ None → made rows room bs s at ≡ record { calls = []; next = at }
  unfolding made
  made_stop zero room e = refl
  made_stop (suc rows) room e = rw e

  pub made_call : (rows room : ℕ) (c : Call) (next : ℕ) → turn_of bs at rows room ≡ Some (c, next)
      → made rows room bs s at ≡ before (c ∷ []) (made (rows - 1) (room - length (call s c).bytes) bs (call s c).after next)
  unfolding made turn_of
  made_call zero room c next e = let z : ◌≡◌ {A = ℕ} 0 1 = cc in absurd (omega arith)
  made_call (suc rows) room c next e =
      let less : suc rows - 1 ≡ rows = omega arith in
      rw (e, less)

pub before_more : (cs : List Call) (c : Call) (x : Made) → before (cs ++ (c ∷ [])) x ≡ before cs (before (c ∷ []) x)
before_more cs c x = ap (λ (l : List Call). record { calls = l; next = x.next }) (append_assoc cs (c ∷ []) x.calls)
