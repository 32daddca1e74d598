-- The definition's refusal, or the memory that Keeping speaks of.
use Rattle.std.proofs.Common.{refl, arith}
use Rattle.std.proofs.lemmas.Result.{err_from_is_err_and}
use Rattle.memory.specs.Laws.{lawful_shape}
use Rattle.deliver.proofs.Keeping.{kept_none, within, sound, kept_no, few, kept_go}
use Rattle.deliver.proofs.deliver.Goals as goal

pub bounds-own-8 : goal.bounds-own-8
bounds-own-8 c = omega (arith, (lawful_shape _ c.requires).own)

pub returns-then-mails-at : goal.returns-then-mails-at
returns-then-mails-at c = kept_none _ c.requires c.args.place c.if-mails-at.true

pub slice_copy_out-m : goal.slice_copy_out-m
slice_copy_out-m c =
    let h = lawful_shape _ c.requires in
    omega (arith, c.if-mails-at.false, h.mail, h.transit)

pub bounds-outputs-p : goal.bounds-outputs-p
bounds-outputs-p c = (within _ c.requires c.args.place _ _ refl c.if-mails-at.false refl).outputs

pub bounds-inputs-p : goal.bounds-inputs-p
bounds-inputs-p c = (within _ c.requires c.args.place _ _ refl c.if-mails-at.false refl).inputs

pub bounds-own-p : goal.bounds-own-p
bounds-own-p c = (within _ c.requires c.args.place _ _ refl c.if-mails-at.false refl).own

pub judge-requires : goal.judge-requires
judge-requires c = record {
  sound = sound _ c.requires c.args.place _ _ refl c.if-mails-at.false refl;
  mails_nonzero = omega (arith, c.if-mails-at.false, (lawful_shape _ c.requires).mail);
}

pub returns-in_err-back : goal.returns-in_err-back
returns-in_err-back c =
    let p = err_from_is_err_and c.from_residual.result c.from_residual.ensures.1 in
    rw (p.1, p.2) (kept_no _ c.requires c.args.place _ _ refl c.if-mails-at.false refl _ c.in_err-back.ensures)

pub carry_out-requires : goal.carry_out-requires
carry_out-requires c =
    let h = lawful_shape _ c.requires in
    record {
      sound = sound _ c.requires c.args.place _ _ refl c.if-mails-at.false refl;
      place_lt_mails = (c.if-mails-at.false, h.mail, h.transit);
      going = c.in_ok-back.ensures;
    }

pub answer-requires : goal.answer-requires
answer-requires c = few _ c.requires c.args.place _ _ refl c.if-mails-at.false refl _ c.in_ok-back.ensures

pub returns : goal.returns
returns c =
    rw c.answer.ensures
    (kept_go _ c.requires c.args.place _ _ refl c.if-mails-at.false refl _ c.in_ok-back.ensures _ _ _ c.carry_out.ensures c.carry_out.auto.inputs c.carry_out.auto.transit c.carry_out.auto.own _ c.with_mails.ensures)
