-- All events are before the time where the last one is; else the history is cut back.
use mathlib.Core.Path.{sym, ap, ◌∙◌}
use mathlib.Core.List.{List}
use lib.ListN.{length}
use Rattle.definition.specs.declared.Saved.{Saved}
use Rattle.definition.specs.State.{before}
use Rattle.history.specs.Rows.{saved_at}
use Rattle.history.specs.Laws.{saved_at_length, all_before}
use Rattle.deliver.proofs.events_kept.Goals as goal

pub returns-then-last-time : goal.returns-then-last-time
returns-then-last-time c =
    let l = saved_at c.args.own.now c.args.events in
    sym (ap length (all_before c.args.time l c.requires.in_order _ (rw c.last-last.ensures at c.if-last-time.true)) ∙ saved_at_length c.args.own.now c.args.events c.requires.events_bound.1)

pub returns : goal.returns
returns c = c.cut_back-left.ensures.count ∙ ap (λ (l : List Saved). length (before c.args.time l)) c.load.ensures.same
