-- The row of an answer, and the rows of the answers of many calls, each made on the state that the one before left.
use Rattle.std.specs.Prelude.{◌≡◌, ℕ, suc, length, get_or}
use Rattle.std.proofs.Math.Path.{refl, ap}
use mathlib.Core.List.{List, [], ◌∷◌, ◌++◌, map}
use Rattle.definition.specs.Answer.{Answer}
use Rattle.definition.specs.declared.Call.{Call}
use Rattle.definition.specs.State.{State}
use Rattle.definition.specs.Calls.{number_of, values_of}
use Rattle.definition.specs.BadState.{call}
use Rattle.definition.specs.Rehearsal.{Rehearsal, after, calls, answers_of}

-- the number that refuses the call, 0 for none, and the values that the answer gives, with 0 for those of three that it does not give
abbrev pub row_of : Answer → List ℕ
row_of a = number_of a ∷ get_or (values_of a) 0 0 ∷ get_or (values_of a) 1 0 ∷ get_or (values_of a) 2 0 ∷ []

unfoldable pub rows_of : State → List Call → List (List ℕ)
unfolding answers_of
rows_of s cs = map row_of (answers_of s cs)

-- ---- one call more

module _ (c : Call) where
  pub calls_more : (z : Rehearsal) (cs : List Call) → calls z (cs ++ (c ∷ [])) ≡ after (calls z cs) c (call (calls z cs).state c)
  unfolding calls
  calls_more z [] = refl
  calls_more z (d ∷ cs) = calls_more (after z d (call z.state d)) cs

  pub rows_more : (z : Rehearsal) (cs : List Call) → rows_of z.state (cs ++ (c ∷ [])) ≡ rows_of z.state cs ++ (row_of (call (calls z cs).state c).answer ∷ [])
  unfolding calls rows_of answers_of
  rows_more z [] = refl
  rows_more z (d ∷ cs) = ap (λ (l : List (List ℕ)). row_of (call z.state d).answer ∷ l) (rows_more (after z d (call z.state d)) cs)

-- a row for each call
pub rows_length : (s : State) (cs : List Call) → length (rows_of s cs) ≡ length cs
unfolding rows_of answers_of
rows_length s [] = refl
rows_length s (c ∷ cs) = ap suc (rows_length (call s c).after cs)
