-- A refusal is that of the definition and writes nothing; what was judged is carried out, and the memory then says the state after the call.
use Rattle.std.proofs.Common.{◌<◌, length-set, arith}
use Rattle.std.proofs.lemmas.Result.{err_from_is_err_and}
use Rattle.rule.specs.Rows.{processes_of}
use Rattle.memory.specs.Laws.{lawful_shape}
use Rattle.execute.proofs.Keeping.{kept_outside, outputs_long, sound, kept_no, keeps}
use Rattle.execute.proofs.execute.Goals as goal
use Rattle.execute.proofs.execute.Goals.{Else-processes-process}

there : (c : Else-processes-process) → c.args.process < processes_of c.args.model.now
there c = omega (arith, c.processes.ensures, c.if-processes-process.false)

pub returns-then-processes-process : goal.returns-then-processes-process
returns-then-processes-process c = kept_outside _ c.requires c.args.process (omega (arith, c.processes.ensures, c.if-processes-process.true))

pub bounds-own-8 : goal.bounds-own-8
bounds-own-8 c = omega (arith, (lawful_shape _ c.requires).own)

pub bounds-model-p : goal.bounds-model-p
bounds-model-p c = let s = lawful_shape _ c.requires in omega (arith, s.rules, s.processes, c.processes.ensures, c.if-processes-process.false)

pub bounds-inputs-p : goal.bounds-inputs-p
bounds-inputs-p c = let s = lawful_shape _ c.requires in omega (arith, s.inputs, s.processes, c.processes.ensures, c.if-processes-process.false)

pub bounds-own-p : goal.bounds-own-p
bounds-own-p c = let s = lawful_shape _ c.requires in omega (arith, s.own, s.processes, c.processes.ensures, c.if-processes-process.false)

pub bounds-outputs-p : goal.bounds-outputs-p
bounds-outputs-p c = let s = lawful_shape _ c.requires in omega (arith, s.outputs, s.processes, c.processes.ensures, c.if-processes-process.false)

pub judge-requires : goal.judge-requires
judge-requires c = sound _ c.requires c.args.process (there (goal.at.judge-requires c).Else-processes-process)

pub returns-in_err-due : goal.returns-in_err-due
returns-in_err-due c =
    let p = err_from_is_err_and c.from_residual.result c.from_residual.ensures.1 in
    rw (p.1, p.2)
    (kept_no _ c.requires c.args.process (there (goal.at.returns-in_err-due c).Else-processes-process) _ ((rw c.rules-rules.ensures at c.in_err-due.ensures) c.args.process))

pub carry_out-requires-clause-sound : goal.carry_out-requires-clause-sound
carry_out-requires-clause-sound c = sound _ c.requires c.args.process (there (goal.at.carry_out-requires-clause-sound c).Else-processes-process)

pub carry_out-requires-clause-output_len : goal.carry_out-requires-clause-output_len
carry_out-requires-clause-output_len c =
    (outputs_long _ c.requires c.args.process (there (goal.at.carry_out-requires-clause-output_len c).Else-processes-process), (lawful_shape _ c.requires).transit)

pub bounds-own-8-in_ok-due : goal.bounds-own-8-in_ok-due
bounds-own-8-in_ok-due c = let s = lawful_shape _ c.requires in rw length-set (omega (arith, s.own))

pub returns : goal.returns
returns c =
    rw (c.answer.ensures, c.with_mails.ensures)
    (keeps _ c.requires c.args.process (there (goal.at.returns c).Else-processes-process) _ _ _ _ ((rw c.rules-rules.ensures at c.in_ok-due.ensures) c.args.process) (rw c.rules-rules.ensures at c.carry_out.ensures) c.carry_out.auto.own c.carry_out.auto.output c.carry_out.auto.transit)
