-- At each return the tests that led there say which case of the definition holds.
use Rattle.std.proofs.Common.{sym, le-leb}
use Rattle.std.proofs.lemmas.Bool.{lt-leb}
use Rattle.definition.specs.ModelBytes.{field}
use Rattle.field.proofs.field.Goals as goal
use Rattle.field.proofs.field.Goals.{then-value-low-via-then-value-low, then-value-low-via-else-value-low+then-high-value}

pub returns-in_default : goal.returns-in_default
unfolding field
returns-in_default c = rw (sym c.read-answer.ensures, c.unwrap_err-refusal.ensures)

pub returns-then-value-low : goal.returns-then-value-low
unfolding field
returns-then-value-low c =
    elim c.then-value-low.branch [
      | then-value-low-via-then-value-low w ↦ rw (sym c.read-answer.ensures, c.in-Ok.is, lt-leb _ _ w.if-value-low.true)
      | then-value-low-via-else-value-low+then-high-value w ↦
          rw (sym c.read-answer.ensures, c.in-Ok.is, le-leb _ _ w.if-value-low.false, lt-leb _ _ w.if-high-value.true)
    ]

pub returns : goal.returns
unfolding field
returns c = rw (sym c.read-answer.ensures, c.in-Ok.is, le-leb _ _ c.if-value-low.false, le-leb _ _ c.if-high-value.false)
