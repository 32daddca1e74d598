-- One pass over the rows: the first is right, and each of the others is right and stands after the one before it.
use Rattle.std.proofs.Common.{rules, [], ◌∙◌}
use Rattle.std.proofs.lemmas.Fn.{always_returns_same}
use Rattle.std.proofs.Common.{map}
use Rattle.definition.specs.Message.{output_key}
use Rattle.definition.specs.BadState.{ok_output}
use Rattle.history.specs.Rows.{saved_of}
use Rattle.queue.specs.Rows.{message_of}
use Rattle.laws.specs.Checks.{passes_after, pass_none, pass_stops, pass_ends}
use Rattle.ranges.proofs.queues.ok_outputs.Goals as goal

pub returns-then-is_empty : goal.returns-then-is_empty
returns-then-is_empty c = let a = c.args in pass_none message_of output_key (ok_output a.processes a.process (map saved_of a.events.now)) a.outputs.now (search rules)

pub returns-else-ok_output : goal.returns-else-ok_output
returns-else-ok_output c = let a = c.args in c.if-ok_output.false ∙ pass_stops message_of output_key (ok_output a.processes a.process (map saved_of a.events.now)) [] a.outputs.now (search rules) (search rules)

pub returns-then-ok_output : goal.returns-then-ok_output
returns-then-ok_output c =
    let a = c.args in
    pass_ends message_of output_key (ok_output a.processes a.process (map saved_of a.events.now)) [] a.outputs.now _ (search rules) (search rules)
    (c.is_sorted_by.ensures.cases (passes_after message_of output_key (ok_output a.processes a.process (map saved_of a.events.now))) (always_returns_same _ _ _ (λ x r g k. (search rules, search rules))))
