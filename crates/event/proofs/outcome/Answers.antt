-- A later row ends the event, and so does the end of the rows.
use Rattle.std.proofs.Common.{arith}
use Rattle.event.proofs.Sending.{within_all}
use Rattle.event.proofs.Walks.{reads_stop, reads_end, left_step, left_end}
use Rattle.event.proofs.outcome.Goals as goal

pub returns-then-time-row : goal.returns-then-time-row
returns-then-time-row c =
    let a = c.args in
    let o = c.loop-row in
    let none = reads_stop a.time a.rows.now o.row-index (omega arith) c.requires.order c.if-time-row.true in
    λ p. left_end a.rules.now a.rows.now p a.time a.stand o.row-index o.w none (within_all o.row-index o.w (omega (arith, c.requires.few)) o.invariant.within) (o.invariant.left p)

pub read-requires : goal.read-requires
read-requires c = let o = c.loop-row in within_all o.row-index o.w (omega (arith, c.requires.few)) o.invariant.within

pub loop-row-preserved : goal.loop-row-preserved
loop-row-preserved c =
    let a = c.args in
    let o = c.loop-row in
    record {
      within = (c.read.ensures.row_read 0).near o.row-index o.invariant.within;
      left = λ p. left_step a.rules.now a.rows.now p a.time a.stand o.row-index (omega arith) o.w _ (c.read.ensures.row_read p) (o.invariant.left p);
    }

pub returns : goal.returns
returns c =
    let a = c.args in
    let o = c.loop-row in
    let none = reads_end a.time a.rows.now o.row-index (omega arith) in
    λ p. left_end a.rules.now a.rows.now p a.time a.stand o.row-index o.w none (within_all o.row-index o.w (omega (arith, c.requires.few)) o.invariant.within) (o.invariant.left p)
