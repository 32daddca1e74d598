-- A refusal writes nothing. Else the row of the request joins transit and the numbers of the whole are stored: the memory that Steps speaks of.
use Rattle.std.proofs.Common.{arith, refl, le-leb}
use Rattle.std.proofs.lemmas.Result.{err_from_is_err_and}
use Rattle.definition.specs.Message.{never}
use Rattle.memory.specs.Laws.{lawful_shape}
use Rattle.inject.proofs.Steps.{refused, fine, made}
use Rattle.inject.proofs.inject.Goals as goal

pub bounds-own-8 : goal.bounds-own-8
bounds-own-8 c = omega (arith, (lawful_shape _ c.requires).own)

pub returns-in_err-judge : goal.returns-in_err-judge
returns-in_err-judge c =
    let a = c.args in
    let p = err_from_is_err_and c.from_residual.result c.from_residual.ensures.1 in
    rw (p.1, p.2) (refused _ c.requires a.number a.receiver a.time a.kind a.value _ (rw c.processes.ensures at c.in_err-judge.ensures))

pub append-requires : goal.append-requires
append-requires c =
    let a = c.args in
    omega (arith, (fine _ c.requires a.number a.receiver a.time a.kind a.value (rw c.processes.ensures at c.in_ok-judge.ensures)).mail_room, (lawful_shape _ c.requires).transit)

pub bounds-own-8-in_ok-judge : goal.bounds-own-8-in_ok-judge
bounds-own-8-in_ok-judge c = omega (arith, (lawful_shape _ c.requires).own)

pub returns : goal.returns
returns c =
    let a = c.args in
    rw c.with_request.ensures
    (made _ c.requires a.number a.receiver a.time a.kind a.value (rw c.processes.ensures at c.in_ok-judge.ensures) (le-leb a.value never (omega arith))
    c.message-request.result c.message-request.ensures _ refl c.append.new.tr c.append.auto.tr c.append.ensures)
