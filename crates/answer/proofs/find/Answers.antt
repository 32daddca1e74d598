-- Past the model there is no rule; else its rows are those at its place.
use Rattle.std.proofs.Common.{List, [], ℕ, ap, sym, ◌∙◌, arith}
use borrow.Author.Tests.{ltb-true}
use Rattle.std.proofs.lemmas.List.{get_or_read}
use Rattle.rule.specs.Rows.{rule_rows}
use Rattle.found.specs.Search.{found_among}
use Rattle.answer.proofs.Search.{found_past, found_at}
use Rattle.answer.proofs.find.Goals as goal

pub returns-then-processes-process : goal.returns-then-processes-process
returns-then-processes-process c =
    let a = c.args in
    found_past a.model.now a.process a.mode a.kind (omega (arith, c.processes.ensures))

pub returns-in_err-rows : goal.returns-in_err-rows
returns-in_err-rows c =
    let a = c.args in
    c.from_residual.ensures ∙ found_past a.model.now a.process a.mode a.kind (omega (arith, c.in_err-rows.ensures.lookup))

pub returns : goal.returns
returns c =
    let a = c.args in
    let at = c.in_ok-rows.ensures.lookup in
    let rows = c.rules.ensures ∙ ap rule_rows (get_or_read a.model.now a.process c.in_ok-rows.rows.now (ltb-true _ _ (sym at.0)) at.1 []) in
    c.find_among.ensures
    ∙ ap (λ (l : List (List ℕ)). found_among l a.mode a.kind) rows
    ∙ found_at a.model.now a.process a.mode a.kind (omega (arith, c.processes.ensures))
