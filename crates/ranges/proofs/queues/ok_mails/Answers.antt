use Rattle.std.proofs.Common.{◌∙◌, rules}
use Rattle.std.proofs.lemmas.Iterator.{YieldsList-from_slice}
use Rattle.std.proofs.lemmas.Iterator.Search.{all_from_yields_List}
use Rattle.definition.specs.BadState.{ok_mail}
use Rattle.laws.specs.Checks.{all_said}
use Rattle.queue.specs.Rows.{mail_of}
use Rattle.ranges.proofs.queues.ok_mails.Goals as goal

pub returns : goal.returns
returns c =
    let a = c.args in
    all_from_yields_List (λ r. ok_mail a.processes a.horizon (mail_of r)) _ _ _ c.all.ensures.ran (YieldsList-from_slice a.mails.now cc) (λ x b q k. search rules)
    ∙ all_said mail_of (ok_mail a.processes a.horizon) a.mails.now
