-- A process not in the model is a case of the promise; where nothing refuses, `answer::apply` stands where the definition's step does.
use Rattle.std.proofs.Common.{sym, ◌∙◌, arith}
use Rattle.host.specs.Steps.{not_there, there}
use Rattle.host.proofs.outcome_of.Goals as goal

pub returns-then-processes-process : goal.returns-then-processes-process
returns-then-processes-process c =
    let a = c.args in
    sym (not_there a.model.now a.process a.stand a.kind a.value (sym c.lawful.ensures ∙ c.if-not-lawful.false) (omega (arith, c.processes.ensures)))

pub returns : goal.returns
returns c =
    let a = c.args in
    sym (there a.model.now a.process a.stand a.kind a.value (sym c.lawful.ensures ∙ c.if-not-lawful.false) (omega (arith, c.processes.ensures)) c.apply.result c.apply.ensures)
