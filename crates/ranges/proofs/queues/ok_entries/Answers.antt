-- One pass over the rows: the first is right, and each of the others is right and stands after the one before it.
use Rattle.std.proofs.Common.{rules, [], ◌∙◌}
use Rattle.std.proofs.lemmas.Fn.{always_returns_same}
use Rattle.definition.specs.State.{entry_key}
use Rattle.definition.specs.BadState.{ok_entry}
use Rattle.queue.specs.Rows.{entry_of}
use Rattle.laws.specs.Checks.{passes_after, pass_none, pass_stops, pass_ends}
use Rattle.ranges.proofs.queues.ok_entries.Goals as goal

pub returns-then-is_empty : goal.returns-then-is_empty
returns-then-is_empty c = let a = c.args in pass_none entry_of entry_key (ok_entry a.processes a.horizon a.process) a.entries.now (search rules)

pub returns-else-ok_entry : goal.returns-else-ok_entry
returns-else-ok_entry c = let a = c.args in c.if-ok_entry.false ∙ pass_stops entry_of entry_key (ok_entry a.processes a.horizon a.process) [] a.entries.now (search rules) (search rules)

pub returns-then-ok_entry : goal.returns-then-ok_entry
returns-then-ok_entry c =
    let a = c.args in
    pass_ends entry_of entry_key (ok_entry a.processes a.horizon a.process) [] a.entries.now _ (search rules) (search rules)
    (c.is_sorted_by.ensures.cases (passes_after entry_of entry_key (ok_entry a.processes a.horizon a.process)) (always_returns_same _ _ _ (λ x r g k. (search rules, search rules))))
