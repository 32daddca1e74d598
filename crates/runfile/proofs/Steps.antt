-- The length of a run file's model is any house number: what reads it as a number from 0 to the largest reads all of them.
use Rattle.std.proofs.Common.{◌≡◌, refl, Bool, true, false, cond, ◌≤◌, ◌+◌, ltb, ℕ, List, length, le-leb}
use Rattle.std.proofs.Math.Dec.{leb-zero}
use Rattle.definition.specs.House.{Number, Read, Fault as NumberFault, largest, number_at}
use Rattle.definition.specs.ModelBytes.{Got, Fault, and_then, ranged, field}
use Rattle.field.specs.Gives.{given, field_in_lem}
use Rattle.runfile.specs.Reading.{head_by, head_of}
use Rattle.runfile.specs.Places.{number_placed}

-- so where the model stands is what follows from that number
pub head_read : (bs : List ℕ) → head_of bs ≡ cond (ltb 65_536 (length bs)) (Fault 15 65_536) (and_then (field bs 0 largest 0) (λ size at. cond (ltb (length bs) (at + size)) (Fault 9 0) (Got at size)))
unfolding head_of field
head_read bs = go (ltb 65_536 (length bs)) (number_at bs 0) refl
  where
    go : (long : Bool) (k : Number) → number_at bs 0 ≡ k → cond long (Fault 15 65_536) (head_by bs k)
        ≡ cond long (Fault 15 65_536) (and_then (ranged 0 largest 0 k) (λ size at. cond (ltb (length bs) (at + size)) (Fault 9 0) (Got at size)))
    go true k e = refl
    go false (NumberFault n) e = refl
    go false (Read v next) e = rw (leb-zero v, le-leb v largest (number_placed bs 0 v next e).small)

-- and the model's first byte is within the input or just past it
pub ends : (bs : List ℕ) (at : ℕ) {v next : ℕ} → field bs 0 largest at ≡ Got v next → next ≤ length bs
ends bs at e = (given (rw e at (field_in_lem bs 0 largest at))).1
