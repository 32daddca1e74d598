use Rattle.std.proofs.Common.{take, ◌∙◌, rules}
use Rattle.std.proofs.lemmas.Iterator.{YieldsList-from_slice}
use Rattle.std.proofs.lemmas.Iterator.Search.{all_from_yields_List}
use Rattle.laws.specs.Checks.{all_is}
use Rattle.rulecheck.specs.Check.{ok_process}
use Rattle.rulecheck.proofs.ok_processes.Goals as goal

pub returns : goal.returns
returns c =
    let a = c.args in
    let some = take a.processes a.model.now in
    all_from_yields_List (ok_process a.processes) _ _ _ c.all.ensures.ran (YieldsList-from_slice some cc) (λ x b q k. search rules)
    ∙ all_is (ok_process a.processes) some
