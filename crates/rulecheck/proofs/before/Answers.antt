-- `<` of two pairs is the order of keys of two numbers.
use Rattle.std.proofs.Common.{get_or, ◌∙◌}
use Rattle.laws.specs.Checks.{pair_before}
use Rattle.rulecheck.proofs.before.Goals as goal

pub returns : goal.returns
returns c =
    let a = c.args.a.now in
    let b = c.args.b.now in
    c.lt.ensures ∙ pair_before (get_or a 0 0) (get_or a 1 0) (get_or b 0 0) (get_or b 1 0)
