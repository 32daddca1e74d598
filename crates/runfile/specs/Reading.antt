-- What the answers of the code say in the words of the definition: a call that was read is told by `parsed`, and where the model of a run file stands
-- by `head_of`. `printed_head` says what the program prints by the latter.
use Rattle.std.specs.Prelude.{◌≡◌, refl, Bool, true, false, cond, List, ℕ, ◌+◌, ◌≤◌, ltb, length, Result}
use Rattle.std.proofs.Common.{arith, ltb-false}
use Rattle.definition.specs.House.{Number, Read, Fault as NumberFault, number_at}
use Rattle.definition.specs.declared.Call.{Call}
use Rattle.definition.specs.declared.refusal.Fault.{Fault as Refused_at}
use Rattle.definition.specs.Answer.{parsed, one_parsed}
use Rattle.definition.specs.ModelBytes.{Parsed, Got, Fault}
use Rattle.definition.specs.Program.{file_text, fault_line, model_from, sized_by, printed}

-- the answer is settled by what it says
pub one_answer : (r s : Result (Call × ℕ) Refused_at) → parsed r ≡ parsed s → r ≡ s
one_answer r s e = one_parsed r s e

-- The place of the model's first byte with its size, or the fault. "A length past the end is Cut at 0"; a fault of the length itself is told there too
abbrev pub head_by : List ℕ → Number → Parsed ℕ
head_by bs (Read size next) = cond (ltb (length bs) (next + size)) (Fault 9 0) (Got next size)
head_by bs (NumberFault n) = Fault n 0

-- "TooLong is a file fault at 65,536, found first"
unfoldable pub head_of : List ℕ → Parsed ℕ
unfolding number_at
head_of bs = cond (ltb 65_536 (length bs)) (Fault 15 65_536) (head_by bs (number_at bs 0))

-- a file fault's line, or what the model and the calls print
abbrev pub head_lines : List ℕ → Parsed ℕ → List ℕ
head_lines bs (Got at size) = model_from bs size at
head_lines bs (Fault n at) = fault_line file_text n at

pub printed_head : (bs : List ℕ) → printed bs ≡ head_lines bs (head_of bs)
unfolding printed head_of sized_by
printed_head bs = go (ltb 65_536 (length bs)) (number_at bs 0)
  where
    go : (long : Bool) (k : Number)
        → cond long (fault_line file_text 15 65_536) (sized_by bs k) ≡ head_lines bs (cond long (Fault 15 65_536) (head_by bs k))
    go true k = refl
    go false (NumberFault n) = refl
    go false (Read size next) = cut (ltb (length bs) (next + size))
      where
        cut : (short : Bool)
            → cond short (fault_line file_text 9 0) (model_from bs size next) ≡ head_lines bs (cond short (Fault 9 0) (Got next size))
        cut true = refl
        cut false = refl

-- a model that stands in the input ends within it, and the input is not too long
pub head_within : (bs : List ℕ) (at size : ℕ) → head_of bs ≡ Got at size → (at + size ≤ length bs) × (length bs ≤ 65_536)
unfolding head_of
head_within bs at size = go (ltb 65_536 (length bs)) refl (number_at bs 0)
  where
    go : (long : Bool) → ltb 65_536 (length bs) ≡ long → (k : Number)
        → cond long (Fault 15 65_536) (head_by bs k) ≡ Got at size → (at + size ≤ length bs) × (length bs ≤ 65_536)
    go true e k h = absurd (cc)
    go false e (NumberFault n) h = absurd (cc)
    go false e (Read v next) h = cut (ltb (length bs) (next + v)) refl h
      where
        cut : (short : Bool) → ltb (length bs) (next + v) ≡ short → cond short (Fault 9 0) (Got next v) ≡ Got at size
            → (at + size ≤ length bs) × (length bs ≤ 65_536)
        cut true d h = absurd (cc)
        cut false d h =
            let p : next ≡ at = cc in
            let q : v ≡ size = cc in
            (omega (arith, ltb-false (length bs) (next + v) d), ltb-false 65_536 (length bs) e)
