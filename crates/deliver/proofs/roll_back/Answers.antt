-- The events that are kept stand in the first rows, as the output entries do.
use Rattle.std.proofs.Common.{refl, ◌≤◌, arith}
use Rattle.history.specs.Rows.{saved_at}
use Rattle.history.specs.Laws.{length_before_from, saved_at_length, saved_at_before}
use Rattle.memory.specs.Memory.{number}
use Rattle.deliver.proofs.roll_back.Goals as goal

pub overflow_sub-result-2 : goal.overflow_sub-result-2
overflow_sub-result-2 c =
    let n = number c.args.own.now 2 in
    omega (arith, c.events_kept-left.ensures, length_before_from c.args.time (saved_at c.args.own.now n) c.requires.history_order, saved_at_length c.args.own.now n (omega (arith, c.requires.own_rows, c.requires.few_events)))

pub returns : goal.returns
returns c =
    let rows = c.args.own.now in
    let n = number rows 2 in
    let long = saved_at_length rows n (omega (arith, c.requires.own_rows, c.requires.few_events)) in
    let both = length_before_from c.args.time (saved_at rows n) c.requires.history_order in
    let left = c.events_kept-left.ensures in
    let few : c.events_kept-left.result ≤ n = omega (arith, left, both, long) in
    record {
      sends_kept = c.sent_before-kept.ensures;
      few_events = few;
      events_kept = saved_at_before rows n c.args.time c.events_kept-left.result c.requires.history_order few left;
      cancelled_sends = refl;
      undone_events = omega (arith, left, both, long);
    }
