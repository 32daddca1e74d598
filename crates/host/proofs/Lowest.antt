-- The lowest unread time of a list, folded from its front: the lower of what is found so far and of what is left.
use Rattle.std.proofs.Common.{◌≡◌, ℕ, ◌≤◌, List, [], ◌∷◌, min, arith, ◌∙◌}
use Rattle.std.specs.Prelude.{fold}
use Rattle.definition.specs.declared.Summary.{Summary}
use Rattle.definition.specs.Message.{never}
use Rattle.definition.specs.Host.{lowest_unread}

abbrev pub lower : ℕ → Summary → ℕ
lower found s = min found s.unread

pub fold_lower : (found : ℕ) (l : List Summary) → found ≤ never → fold lower found l ≡ min found (lowest_unread l)
unfolding lowest_unread
fold_lower found [] h = omega arith
fold_lower found (s ∷ l) h = fold_lower (min found s.unread) l (omega arith) ∙ omega arith

pub lowest_least : (l : List Summary) → lowest_unread l ≤ never
unfolding lowest_unread
lowest_least [] = omega arith
lowest_least (s ∷ l) = omega (arith, lowest_least l)
