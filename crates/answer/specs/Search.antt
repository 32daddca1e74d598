-- What is found for a process of a model in rows: what is found among its rules, and nothing past the model. As a rule of the definition it is the
-- one that `find` finds.
use Rattle.std.specs.Prelude.{◌≡◌, Option, List, [], ℕ, get_or, take}
use Rattle.definition.specs.Model.{setup, find}
use Rattle.rule.specs.Rows.{rule_rows, processes_of, model_of}
use Rattle.rule.specs.Laws.{setup_is}
use Rattle.rule.specs.declared.Decoded.{Decoded}
use Rattle.found.specs.Search.{found_among, found_of, finds as finds-among}

unfoldable pub found_for : List (List (List ℕ)) → ℕ → ℕ → ℕ → Option Decoded
found_for m p mode kind = found_among (rule_rows (get_or (take (processes_of m) m) p [])) mode kind

pub finds : (m : List (List (List ℕ))) (p mode kind : ℕ) → found_of (found_for m p mode kind) ≡ find (setup (model_of m) p).rules mode kind
unfolding found_for
finds m p mode kind = rw (setup_is m p) (finds-among (rule_rows (get_or (take (processes_of m) m) p [])) mode kind)
