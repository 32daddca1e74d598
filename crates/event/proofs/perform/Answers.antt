-- A later row ends the event, and so does the end of the rows.
use Rattle.std.proofs.Common.{arith, ◌∙◌}
use Rattle.event.proofs.Sending.{within_all}
use Rattle.event.proofs.Walks.{reads_stop, reads_end, row_room, leaving_step, leaving_end}
use Rattle.event.proofs.perform.Goals as goal

pub returns-then-time-row-clause-joined : goal.returns-then-time-row-clause-joined
returns-then-time-row-clause-joined c =
    let a = c.args in
    let o = c.loop-row in
    let none = reads_stop a.time a.rows.now o.row-index (omega arith) c.requires.readable.order c.if-time-row.true in
    leaving_end a.rules.now a.rows.now a.process a.time a.stand o.row-index o.w none _ _ o.invariant.leaving

pub perform_row-w-requires : goal.perform_row-w-requires
perform_row-w-requires c =
    let a = c.args in
    let o = c.loop-row in
    record {
      within = within_all o.row-index o.w (omega (arith, c.requires.readable.few)) o.invariant.within;
      room = row_room a.rules.now a.rows.now a.process a.time a.stand o.row-index (omega arith) o.w _ _ o.invariant.leaving c.requires.room;
    }

pub loop-row-preserved : goal.loop-row-preserved
loop-row-preserved c =
    let a = c.args in
    let o = c.loop-row in
    let r = c.perform_row-w.ensures in
    record {
      within = (r.row_read 0).near o.row-index o.invariant.within;
      leaving = leaving_step a.rules.now a.rows.now a.process a.time a.stand o.row-index (omega arith) o.w _ (r.row_read a.process) _ _ _ r.joined o.invariant.leaving;
      same_rows = (r.same_rows.0 ∙ o.invariant.same_rows.0, r.same_rows.1 ∙ o.invariant.same_rows.1);
    }

pub returns-clause-joined : goal.returns-clause-joined
returns-clause-joined c =
    let a = c.args in
    let o = c.loop-row in
    let none = reads_end a.time a.rows.now o.row-index (omega arith) in
    leaving_end a.rules.now a.rows.now a.process a.time a.stand o.row-index o.w none _ _ o.invariant.leaving
