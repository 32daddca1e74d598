-- The call is read, made and printed, or its fault is told.
use mathlib.Core.Path.{sym, ap, ◌∙◌}
use borrow.Author.Rules.{rules}
use Rattle.definition.specs.Answer.{parsed}
use Rattle.rehearsal.proofs.Stepping.{call_fault, call_made}
use Rattle.rehearsal.proofs.step.Goals as goal

pub returns-in-Err-clause-prints : goal.returns-in-Err-clause-prints
returns-in-Err-clause-prints c =
    call_fault _ _ _ _ (search rules) c.if-text-lt-LONGEST.false c.if-bytes-gt-INPUT_LENGTH.false c.if-bytes-at.false _ _
    (sym c.call_at.ensures ∙ ap parsed c.in-Err.is) c.ended.ensures

pub returns-in-Ok-clause-prints : goal.returns-in-Ok-clause-prints
returns-in-Ok-clause-prints c =
    call_made _ _ _ _ (search rules) c.if-text-lt-LONGEST.false c.if-bytes-gt-INPUT_LENGTH.false c.if-bytes-at.false _ _
    (sym c.call_at.ensures ∙ ap parsed c.in-Ok.is) c.work-end.ensures.works
