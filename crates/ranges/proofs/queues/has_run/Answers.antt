use Rattle.std.proofs.Common.{eqb, get_or, ◌∙◌, rules}
use Rattle.std.proofs.lemmas.Iterator.{YieldsList-from_slice}
use Rattle.std.proofs.lemmas.Iterator.Search.{any_from_yields_List}
use Rattle.ranges.proofs.Rows.{run_said}
use Rattle.ranges.proofs.queues.has_run.Goals as goal

pub returns : goal.returns
returns c =
    let a = c.args in
    any_from_yields_List (λ e. eqb (get_or e 0 0) a.time) _ _ _ c.any.ensures.ran (YieldsList-from_slice a.events.now cc) (λ x b q k. search rules)
    ∙ run_said a.time a.events.now
