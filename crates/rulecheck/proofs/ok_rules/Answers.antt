-- One pass over the rules: the first is right, and each of the others is right and stands after the one before it.
use Rattle.std.proofs.Common.{rules, [], ◌∙◌}
use Rattle.std.proofs.lemmas.Fn.{always_returns_same}
use Rattle.laws.specs.Checks.{passes_after, pass_none, pass_stops, pass_ends}
use Rattle.rulecheck.specs.Check.{itself, row_key, ok_row}
use Rattle.rulecheck.proofs.ok_rules.Goals as goal

pub returns-then-is_empty : goal.returns-then-is_empty
returns-then-is_empty c = let a = c.args in pass_none itself row_key (ok_row a.processes) a.rules.now (search rules)

pub returns-else-ok_row : goal.returns-else-ok_row
returns-else-ok_row c = let a = c.args in c.if-ok_row.false ∙ pass_stops itself row_key (ok_row a.processes) [] a.rules.now (search rules) (search rules)

pub returns-then-ok_row : goal.returns-then-ok_row
returns-then-ok_row c =
    let a = c.args in
    pass_ends itself row_key (ok_row a.processes) [] a.rules.now _ (search rules) (search rules)
    (c.is_sorted_by.ensures.cases (passes_after itself row_key (ok_row a.processes)) (always_returns_same _ _ _ (λ x r g k. (search rules, search rules))))
