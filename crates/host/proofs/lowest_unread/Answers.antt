use Rattle.std.proofs.Common.{◌≡◌, ◌∙◌, arith, rules}
use Rattle.std.specs.Prelude.{fold}
use Rattle.definition.specs.Message.{never}
use Rattle.host.proofs.Lowest.{lower, fold_lower, lowest_least}
use Rattle.host.proofs.lowest_unread.Goals as goal

pub returns : goal.returns
returns c =
    let l = c.args.processes.now in
    let found : c.fold.result ≡ fold lower never l = search rules in
    found ∙ fold_lower never l (omega arith) ∙ omega (arith, lowest_least l)
