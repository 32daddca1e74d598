use Rattle.std.proofs.Common.{◌∙◌, Option, List, ℕ, ap, rules}
use Rattle.std.proofs.lemmas.Iterator.{YieldsList-from_slice}
use Rattle.std.proofs.lemmas.Iterator.Search.{find_from_yields_List}
use Rattle.std.specs.Option.{option_map}
use Rattle.rule.specs.Rows.{decoded}
use Rattle.found.proofs.Search.{answers, find_said, map_said}
use Rattle.found.proofs.find_among.Goals as goal

pub returns : goal.returns
returns c =
    let a = c.args in
    let first = find_from_yields_List (answers a.mode a.kind) _ _ c.find.result c.find.ensures.ran (YieldsList-from_slice a.rules.now cc) (λ x b q k. search rules) in
    map_said (λ row. row.now) decoded _ c.find.result _ c.map.ensures.cases (λ x y k. search rules)
    ∙ ap (λ (o : Option (List ℕ)). option_map decoded o) first
    ∙ find_said a.mode a.kind a.rules.now
