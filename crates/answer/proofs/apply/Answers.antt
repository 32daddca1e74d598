-- By what `find` found: its rule is applied, or the process stands where it stood.
use Rattle.std.proofs.Common.{rules}
use Rattle.answer.proofs.Search.{stood}
use Rattle.answer.proofs.apply.Goals as goal

pub returns : goal.returns
returns c =
    let a = c.args in
    stood a.model.now a.process a.stand.mode a.kind c.find.result a.stand _ a.value _ c.find.ensures c.map_or.ensures (λ d k. search rules)
