-- The order of the history.
use Rattle.std.specs.Prelude.{List, [], ◌∷◌, ℕ}
use Rattle.definition.specs.declared.Saved.{Saved}

-- "history by time"
abbrev pub saved_key : Saved → List ℕ
saved_key e = e.time ∷ []
