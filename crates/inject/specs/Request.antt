-- A request over the numbers of the whole: the number that refuses it, and these numbers after it.
use Rattle.std.specs.Prelude.{Bool, cond, not, ◌||◌, List, [], ◌∷◌, ℕ, ◌+◌, leb, ltb, eqb, get_or, Result, Ok, Err}
use Rattle.definition.specs.declared.refusal.Refusal.{Refusal}
use Rattle.definition.specs.Answer.{refusal_number}
use Rattle.definition.specs.Message.{never}

-- the number of what refuses it, or 0
abbrev pub told : Result (Unit {0}) Refusal → ℕ
told (Ok x) = 0
told (Err r) = refusal_number r

-- refused by 1 whatever the state is; p processes
abbrev pub bad_argument : ℕ → ℕ → ℕ → ℕ → ℕ → Bool
bad_argument p number receiver time kind = leb p receiver || (ltb 7 kind || (eqb time 0 || (leb never time || ltb 999_999_999 number)))

-- the number that refuses a request, or 0
abbrev pub refusal : List ℕ → ℕ → ℕ → ℕ → ℕ → ℕ → ℕ
refusal whole p number receiver time kind =
    cond (bad_argument p number receiver time kind) 1
    (cond (ltb number (get_or whole 2 0)) 2
    (cond (ltb (get_or whole 2 0) number) 3
    (cond (ltb time (get_or whole 1 0)) 4
    (cond (not (leb (get_or whole 0 0) 127)) 7 0))))

abbrev pub with_request : List ℕ → ℕ → List ℕ
with_request whole number = (get_or whole 0 0 + 1) ∷ get_or whole 1 0 ∷ (number + 1) ∷ get_or whole 3 0 ∷ 0 ∷ 0 ∷ 0 ∷ 0 ∷ []
