-- The first rows that a start puts down.
use Rattle.std.specs.Prelude.{◌≡◌, List, [], ◌∷◌, ℕ, ◌≤◌, ◌<◌, length, get_or, set}
use Rattle.definition.specs.declared.Stand.{Stand}
use Rattle.rule.specs.Rows.{setup_of}
use Rattle.memory.specs.Memory.{Table, Rows}

-- of a process: no rows, and its base
abbrev pub first_row : Stand → List ℕ
first_row s = 0 ∷ 0 ∷ 0 ∷ s.mode ∷ s.tally ∷ 0 ∷ 0 ∷ 0 ∷ []

-- the rows of process p with its first row put down
abbrev pub first_rows : Table → Table → ℕ → Rows
first_rows model own p = set (get_or own p []) 0 (first_row (setup_of (get_or model p [])).first)

-- those of the first n processes are put down, and nothing else changes
pub record Placed (model : Table) (n : ℕ) (own after : Table) : Type 0 where
  pub long : length after ≡ length own
  pub placed : (p : ℕ) → p < n → get_or after p [] ≡ first_rows model own p
  pub rest : (p : ℕ) → n ≤ p → get_or after p [] ≡ get_or own p []
