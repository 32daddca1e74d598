-- What was found among the first n rows.
use Rattle.std.proofs.Common.{◌<◌, [], ap, ◌∙◌, length, take, get_or-take, arith, length-take}
use Rattle.queue.proofs.Orders.{counts}
use Rattle.queue.proofs.Arrivals.{new_many}
use Rattle.queue.proofs.input.count.Goals as goal

pub recount-requires-clause-bound : goal.recount-requires-clause-bound
recount-requires-clause-bound c = let a = c.args in let h = rw (c.in-Ok.is, c.new.ensures) at c.find.ensures in
    let b : c.in-Ok.i < a.n = omega (arith, h.0, length-take a.n a.q.now) in
    rw (get_or-take a.n a.q.now c.in-Ok.i [] b) at (counts (take a.n a.q.now) c.requires.nets c.in-Ok.i h.0)

pub add-requires-clause-room : goal.add-requires-clause-room
add-requires-clause-room c = let a = c.args in let h = rw (c.in-Err.is, c.new.ensures) at c.find.ensures in
    omega (arith, length-take a.n a.q.now, c.requires.fits, c.requires.room, ap length (h.1 a.anti) ∙ new_many (take a.n a.q.now) c.in-Err.i a.anti a.m h.0)
