-- The new row stands at i.
use Rattle.std.proofs.Common.{◌+◌, take, arith, length-append, length-take, length-drop}
use Rattle.queue.proofs.Arrivals.{new_row, holds}
use Rattle.queue.proofs.input.add.Goals as goal

pub returns : goal.returns
returns c = let a = c.args in
    holds c.insert.new.q (a.n + 1) _ _ c.insert.ensures (simp (length-append, length-take, length-drop) (omega arith)) (rw (c.with_last-e.ensures, c.step.ensures) (new_row (take a.n a.q.now) a.i a.anti a.m))
