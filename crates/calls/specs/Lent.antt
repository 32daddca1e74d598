-- The buffer that a call is lent: an advance's is as long as the call says, and no other call has bytes to write.
use Rattle.std.specs.Prelude.{◌≡◌, refl, Bool, true, false, not, List, ℕ, zero, suc, length}
use Rattle.definition.specs.Answer.{Answer}
use Rattle.definition.specs.declared.Call.{Call}
use Rattle.definition.specs.declared.Call.TheVariants.{Inject, Deliver, Execute, Advance}
use Rattle.definition.specs.ModelBytes.{Parsed, Got, Fault, and_then, field}
use Rattle.definition.specs.Program.{buffer_length, argument, call_by, call_at}
use Rattle.definition.specs.Record.{onto}
use Rattle.definition.specs.Calls.{check}
use Rattle.definition.specs.BadState.{call}
use Rattle.lawful.specs.Written.{is_advance, no_bytes}
use Rattle.memory.specs.Memory.{Memory, state_of, shaped}
use Rattle.memory.specs.Promise.{due, Kept, Committed}

-- the room that a call speaks of, which is an advance's; any other is lent the n bytes that it is lent
abbrev pub room_of : Call → ℕ → ℕ
room_of (Inject number receiver time kind value) n = n
room_of (Deliver place) n = n
room_of (Execute process) n = n
room_of (Advance ceiling room) n = room

-- a call that is no advance leaves the buffer as it was
pub none_written : {m : Memory} {a : Answer} {w : Memory} (b : List ℕ) (c : Call) → is_advance c ≡ false → Kept m c a w → Committed m c a w b b
unfolding due check onto
none_written {m} b c other k = record { kept = k; buffer = go (shaped m) }
  where
    go : (shape : Bool) → b ≡ onto (check (not shape) 16 (state_of m) (call (state_of m) c)).bytes b
    go true = rw (no_bytes (state_of m) c other) refl
    go false = refl

-- an advance writes
pub advance_commits : {m : Memory} {a : Answer} {w : Memory} {b d : List ℕ} (c : Call) (ceiling room : ℕ) → c ≡ Advance ceiling room → room_of c (length b) ≡ length b
    → Committed m (Advance ceiling (length b)) a w b d → Committed m c a w b d
advance_commits {b = b} c ceiling room e h k = let f : room ≡ length b = rw e at h in rw (e, f) k

-- ---- a call that was read from a run file

-- what was read, if it was, has this
data Reads {A : Type 0} (P : A → Type 0) : Parsed A → Type 0 where
  got : {a : A} {next : ℕ} → P a → Reads P (Got a next)
  fault : {n place : ℕ} → Reads P (Fault n place)

module _ {A B : Type 0} (P : B → Type 0) where
  then_reads : (p : Parsed A) (f : A → ℕ → Parsed B) → ((a : A) (next : ℕ) → Reads P (f a next)) → Reads P (and_then p f)
  then_reads (Got a next) f h = h a next
  then_reads (Fault n place) f h = fault

abbrev Roomed : Call → Type 0
Roomed c = room_of c buffer_length ≡ buffer_length

by_reads : (bs : List ℕ) (tag at : ℕ) → Reads Roomed (call_by bs tag at)
by_reads bs zero at =
    then_reads Roomed (argument bs at) _ (λ number next.
    then_reads Roomed (argument bs next) _ (λ receiver next.
    then_reads Roomed (argument bs next) _ (λ time next.
    then_reads Roomed (argument bs next) _ (λ kind next.
    then_reads Roomed (argument bs next) _ (λ value next. got refl)))))
by_reads bs (suc zero) at = then_reads Roomed (argument bs at) _ (λ place next. got refl)
by_reads bs (suc (suc zero)) at = then_reads Roomed (argument bs at) _ (λ process next. got refl)
by_reads bs (suc (suc (suc n))) at = then_reads Roomed (argument bs at) _ (λ ceiling next. got refl)

call_reads : (bs : List ℕ) (at : ℕ) → Reads Roomed (call_at bs at)
unfolding call_at
call_reads bs at = then_reads Roomed (field bs 0 3 at) (call_by bs) (by_reads bs)

-- an advance is lent a run file's whole buffer
pub lent_whole : (bs : List ℕ) (at : ℕ) (c : Call) (next : ℕ) → call_at bs at ≡ Got c next → room_of c buffer_length ≡ buffer_length
lent_whole bs at c next e = go (rw e at (call_reads bs at))
  where
    go : Reads Roomed (Got c next) → room_of c buffer_length ≡ buffer_length
    go (got h) = h
