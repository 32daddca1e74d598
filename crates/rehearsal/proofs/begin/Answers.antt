use mathlib.Core.Path.{sym, ap, ◌∙◌}
use borrow.Author.Rules.{rules}
use Rattle.definition.specs.Answer.{parsed}
use Rattle.rehearsal.proofs.Beginning.{file_fault}
use Rattle.rehearsal.proofs.begin.Goals as goal

pub returns-in-Err : goal.returns-in-Err
returns-in-Err c = file_fault _ _ _ (search rules) c.if-text-lt-LONGEST.false _ _ (sym c.head.ensures ∙ ap parsed c.in-Err.is) c.ended.ensures
