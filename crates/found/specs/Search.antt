-- What a search finds: the first of the rows for a mode and a kind, decoded word for word; words that the rule does not need are the row's too. As a
-- rule of the definition it is the one that `find` finds.
use Rattle.std.specs.Prelude.{◌≡◌, refl, Bool, true, false, cond, ◌&&◌, Option, Some, None, List, [], ◌∷◌, map, ℕ, eqb}
use Rattle.std.proofs.Math.Option as Math
use Rattle.definition.specs.Model.{Rule, find}
use Rattle.rule.specs.declared.Decoded.{Decoded}
use Rattle.rule.specs.Rows.{decoded, rule_of, rule_at}

unfoldable pub found_among : List (List ℕ) → ℕ → ℕ → Option Decoded
found_among [] mode kind = None
found_among (row ∷ rows) mode kind = cond (eqb (decoded row).mode mode && eqb (decoded row).kind kind) (Some (decoded row)) (found_among rows mode kind)

-- ---- the rule of the definition

abbrev pub found_of : Option Decoded → Math.Option Rule
found_of (Some d) = Math.some (rule_of d)
found_of None = Math.none

either : (here : Bool) (d : Decoded) (f : Option Decoded) (o : Math.Option Rule) → found_of f ≡ o → found_of (cond here (Some d) f) ≡ cond here (Math.some (rule_of d)) o
either true d f o e = refl
either false d f o e = e

pub finds : (rows : List (List ℕ)) (mode kind : ℕ) → found_of (found_among rows mode kind) ≡ find (map rule_at rows) mode kind
unfolding found_among find
finds [] mode kind = refl
finds (row ∷ rows) mode kind = either (eqb (decoded row).mode mode && eqb (decoded row).kind kind) (decoded row) _ _ (finds rows mode kind)
