-- `run::make` meets its contract: the call is made on the part of the record that begins where it ended, and what that part holds is put back.
use Prim.Native.Nat.{◌+◌, ◌-◌}
use native.Mathlib.Omega.{arith}
use Rattle.definition.specs.Answer.{answer_of}
use Rattle.run.proofs.Turning.{part_length, turned}
use Rattle.run.proofs.make.Goals as goal

pub make-answer-requires : goal.make-answer-requires
make-answer-requires c = record { ready = c.requires.ready; buffer_value = rw (part_length c.args.committed.now c.args.recorded 4096 c.requires.place_in_bounds.1) c.requires.buffer_length_value }

pub returns-clause-turned : goal.returns-clause-turned
returns-clause-turned c =
    let n = c.args.recorded in
    turned _ _ c.args.call (answer_of c.make-answer.result) c.args.answers.now c.args.place c.args.committed.now _ n ((n + 4096) - n) c.requires.ready
    c.make-answer.ensures.commits c.committed-1.given.0 (omega (arith, c.requires.place_in_bounds.1))
    c.written.result c.written.ensures c.row.result c.row.ensures

-- the record's end is within the record
pub overflow_add-result : goal.overflow_add-result
overflow_add-result c =
    omega (arith, (returns-clause-turned c).within)
