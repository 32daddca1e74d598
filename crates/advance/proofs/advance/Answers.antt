-- It is refused, and nothing is written; or the entries fit, and it is done.
use Rattle.std.proofs.Common.{arith}
use Rattle.memory.specs.Laws.{lawful_shape}
use Rattle.advance.specs.Rows.{histories, inputs, outputs}
use Rattle.advance.specs.Entries.{summed_bytes, summed_few}
use Rattle.advance.specs.Done.{refused, done}
use Rattle.advance.proofs.advance.Goals as goal

pub bounds-own-8 : goal.bounds-own-8
bounds-own-8 c = omega (arith, (histories _ c.requires).long)

pub reached-horizon-requires : goal.reached-horizon-requires
reached-horizon-requires c =
    let m = lawful_shape _ c.requires in
    rw c.processes-processes.ensures (record { histories = histories _ c.requires; inputs = inputs _ c.requires; own_len = (m.numbers, omega (arith, m.mail, m.transit)) })

pub new-entries-requires : goal.new-entries-requires
new-entries-requires c = rw c.processes-processes.ensures (histories _ c.requires)

pub returns-then-buffer-sum : goal.returns-then-buffer-sum
returns-then-buffer-sum c =
    let measured = rw c.new-entries.ensures at c.measure-sum.ensures in
    refused _ c.requires c.args.ceiling c.args.buffer.now c.processes-processes.result c.reached-horizon.result c.measure-sum.result
    c.processes-processes.ensures c.reached-horizon.ensures measured c.if-buffer-sum.true

pub write-requires : goal.write-requires
write-requires c = omega (arith, summed_bytes c.measure-sum.ensures, c.if-buffer-sum.false)

pub all-requires : goal.all-requires
all-requires c =
    rw c.processes-processes.ensures (record { histories = histories _ c.requires; inputs = inputs _ c.requires; outputs = outputs _ c.requires })

pub bounds-own-8-else-buffer-sum : goal.bounds-own-8-else-buffer-sum
bounds-own-8-else-buffer-sum c = omega (arith, c.all.ensures.own_long, (histories _ c.requires).long)

pub overflow_cast-result : goal.overflow_cast-result
overflow_cast-result c =
    let measured = rw c.new-entries.ensures at c.measure-sum.ensures in
    omega (arith, (summed_few c.reached-horizon.result (rw c.processes-processes.ensures (histories _ c.requires)) measured).0)

pub overflow_cast-result-2 : goal.overflow_cast-result-2
overflow_cast-result-2 c =
    let measured = rw c.new-entries.ensures at c.measure-sum.ensures in
    omega (arith, (summed_few c.reached-horizon.result (rw c.processes-processes.ensures (histories _ c.requires)) measured).1)

pub returns : goal.returns
returns c =
    let measured = rw c.new-entries.ensures at c.measure-sum.ensures in
    rw c.with_horizon.ensures
    (done _ c.requires c.args.ceiling c.args.buffer.now c.processes-processes.result c.reached-horizon.result c.measure-sum.result c.processes-processes.ensures
    c.reached-horizon.ensures measured c.if-buffer-sum.false c.all.new.own c.all.new.inputs c.all.new.outputs c.all.ensures _
    (rw c.new-entries.ensures at c.write.ensures))
