use Rattle.std.proofs.Common.{take, [], ◌∷◌, ◌∙◌, rules}
use Rattle.std.proofs.lemmas.Iterator.{YieldsList-from_slice, YieldsList-from_take}
use Rattle.std.proofs.lemmas.Iterator.Search.{all_from_yields_List}
use Rattle.definition.specs.Model.{ok_send}
use Rattle.laws.specs.Checks.{all_is}
use Rattle.rulecheck.proofs.ok_sends.Goals as goal

pub returns : goal.returns
returns c =
    let a = c.args in
    let both = a.rule.first ∷ a.rule.second ∷ [] in
    all_from_yields_List (ok_send a.processes) _ _ _ c.all.ensures.ran (YieldsList-from_take a.rule.count (YieldsList-from_slice both cc) cc) (λ x b q k. search rules)
    ∙ all_is (ok_send a.processes) (take a.rule.count both)
