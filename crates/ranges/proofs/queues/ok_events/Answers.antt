-- One pass over the rows: the first is right, and each of the others is right and stands after the one before it.
use Rattle.std.proofs.Common.{rules, [], ◌∙◌}
use Rattle.std.proofs.lemmas.Fn.{always_returns_same}
use Rattle.definition.specs.BadState.{ok_saved}
use Rattle.history.specs.Rows.{saved_of}
use Rattle.ranges.specs.Keys.{saved_key}
use Rattle.laws.specs.Checks.{passes_after, pass_none, pass_stops, pass_ends}
use Rattle.ranges.proofs.queues.ok_events.Goals as goal

pub returns-then-is_empty : goal.returns-then-is_empty
returns-then-is_empty c = let a = c.args in pass_none saved_of saved_key (ok_saved a.horizon) a.events.now (search rules)

pub returns-else-ok_event : goal.returns-else-ok_event
returns-else-ok_event c = let a = c.args in c.if-ok_event.false ∙ pass_stops saved_of saved_key (ok_saved a.horizon) [] a.events.now (search rules) (search rules)

pub returns-then-ok_event : goal.returns-then-ok_event
returns-then-ok_event c =
    let a = c.args in
    pass_ends saved_of saved_key (ok_saved a.horizon) [] a.events.now _ (search rules) (search rules)
    (c.is_sorted_by.ensures.cases (passes_after saved_of saved_key (ok_saved a.horizon)) (always_returns_same _ _ _ (λ x r g k. (search rules, search rules))))
