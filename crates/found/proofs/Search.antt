-- The library's `find` and `map`, as a search of the rows: the first row for a mode and a kind, decoded.
use Rattle.std.proofs.Common.{◌≡◌, ℕ, Bool, cond, ◌&&◌, true, false, List, [], ◌∷◌, Option, Some, None, get_or, eqb, refl, ap}
use Rattle.std.specs.Prelude.{find}
use Rattle.std.specs.Option.{MatchOption, IsSomeAnd, option_map}
use Rattle.rule.specs.declared.Decoded.{Decoded}
use Rattle.rule.specs.Rows.{decoded}
use Rattle.found.specs.Search.{found_among}

-- `map` by a closure that answers g of what v sees in its argument
pub map_said : {A B C : Type 0} (v : A → B) (g : B → C) (P : A → C → Type 0) (o : Option A) (r : Option C) → MatchOption o (r ≡ None) (λ x. IsSomeAnd r (P x)) → ((x : A) (y : C) → P x y → y ≡ g (v x)) → r ≡ option_map g (option_map v o)
map_said v g P None r h k = h
map_said v g P (Some x) None h k = absurd h
map_said v g P (Some x) (Some y) h k = ap Some (k x y h)

module _ (mode kind : ℕ) where
  -- the row is for the mode and the kind
  abbrev pub answers : List ℕ → Bool
  answers row = eqb (get_or row 0 0) mode && eqb (get_or row 1 0) kind

  one : (here : Bool) (row : List ℕ) (o : Option (List ℕ)) (f : Option Decoded) → option_map decoded o ≡ f → option_map decoded (cond here (Some row) o) ≡ cond here (Some (decoded row)) f
  one true row o f e = refl
  one false row o f e = e

  pub find_said : (rows : List (List ℕ)) → option_map decoded (find answers rows) ≡ found_among rows mode kind
  unfolding found_among
  find_said [] = refl
  find_said (row ∷ rows) = one (answers row) row _ _ (find_said rows)
