-- What is known of a call that is made: it was read from the input, so the buffer that it speaks of is that of a run file; and a row and the room for
-- that buffer are left.
use mathlib.Core.Path.{◌≡◌, refl, ap}
use mathlib.Core.Bool.{Bool, true, false, cond, ◌||◌}
use mathlib.Core.List.{List}
use Prim.Native.Nat.{ℕ, zero, suc, ◌≤◌, ◌<◌}
use native.Mathlib.Omega.{arith}
use borrow.Author.Tests.{ltb-false}
use lib.Dec.{leb, ltb}
use lib.ListN.{length}
use Rattle.definition.specs.declared.Call.{Call}
use Rattle.definition.specs.ModelBytes.{Parsed, Got, Fault}
use Rattle.definition.specs.Program.{buffer_length, call_at}
use Rattle.laws.specs.Tests.{or_false}
use Rattle.calls.specs.Lent.{room_of, lent_whole}
use Rattle.std.specs.Prelude.{Option, Some, None, Result, Ok, Err}
use Rattle.std.specs.Result.{result_ok}
use Rattle.definition.specs.declared.refusal.Fault.{Fault as Refused_at}
use Rattle.definition.specs.Answer.{parsed}
use Rattle.run.specs.Made.{turn_by, turn_of}

pub record Makes (c : Call) (rows room : ℕ) : Type 0 where
  pub row : 0 < rows
  pub room_left : buffer_length ≤ room
  pub buffer : room_of c buffer_length ≡ buffer_length

module _ (bs : List ℕ) (at : ℕ) (c : Call) (next : ℕ) where
  never_stops : {X : Type 0} → ◌≡◌ {A = Option (Call × ℕ)} None (Some (c, next)) → X
  never_stops e = let z : ◌≡◌ {A = ℕ} 0 1 = cc in absurd (omega arith)

  read_call : (p : Parsed Call) → call_at bs at ≡ p → turn_by p ≡ Some (c, next) → room_of c buffer_length ≡ buffer_length
  read_call (Fault n place) r e = never_stops e
  read_call (Got d place) r e =
      let both : ◌≡◌ {A = Call × ℕ} (d, place) (c, next) = cc in
      rw (ap (λ (x : Call × ℕ). x.0) both) at (lent_whole bs at d place r)

  pub makes : (rows room : ℕ) → turn_of bs at rows room ≡ Some (c, next) → Makes c rows room
  unfolding turn_of
  makes zero room e = never_stops e
  makes (suc rows) room e = go (ltb room buffer_length || leb (length bs) at) refl e
    where
      go : (b : Bool) → ltb room buffer_length || leb (length bs) at ≡ b → cond b None (turn_by (call_at bs at)) ≡ Some (c, next) → Makes c (suc rows) room
      go true d e = never_stops e
      go false d e =
          record {
            row = omega arith;
            room_left = ltb-false room buffer_length (or_false (ltb room buffer_length) (leb (length bs) at) d).0;
            buffer = read_call (call_at bs at) refl e;
          }

-- what is read of the input, as the turn that it is
pub read_turn : (r : Result (Call × ℕ) Refused_at) → result_ok r ≡ turn_by (parsed r)
read_turn (Ok x) = refl
read_turn (Err f) = refl
