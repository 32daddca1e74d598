-- A new entry may always be made; one that is there is judged by the count that it would have.
use Rattle.queue.proofs.Orders.{counts}
use Rattle.queue.proofs.Verdicts.{judged_new, judged_again}
use Rattle.queue.proofs.input.Entries.judge.Goals as goal

pub step-requires : goal.step-requires
step-requires c = let h = rw c.in-Ok.is at c.find.ensures in counts c.args.self.now.rows.now c.requires c.in-Ok.i h.0

pub returns-in-Ok : goal.returns-in-Ok
returns-in-Ok c = rw (c.rows_with.ensures, c.step.ensures) (judged_again c.args.self.now.rows.now c.args.m c.in-Ok.i c.args.anti c.requires (rw c.in-Ok.is at c.find.ensures))

pub returns-in-Err : goal.returns-in-Err
returns-in-Err c = judged_new c.args.self.now.rows.now c.args.m c.in-Err.field-0 c.args.anti c.requires (rw c.in-Err.is at c.find.ensures)
