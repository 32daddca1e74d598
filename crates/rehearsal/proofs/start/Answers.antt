-- The model is read from its part of the input. A refusal leaves its rows as they were; an accepted model is one that a start takes.
use native.Mathlib.Omega.{arith}
use Rattle.laws.specs.Places.{and_true}
use Rattle.text.specs.Lines.{model_most}
use Rattle.lines.specs.Events.{line_fits}
use Rattle.runfile.specs.Reading.{head_within}
use Rattle.rehearsal.proofs.Saying.{said}
use Rattle.rehearsal.proofs.Beginning.{fault_place, model_refused, model_starts, model_started}
use Rattle.rehearsal.proofs.start.Goals as goal

pub overflow_add-next : goal.overflow_add-next
overflow_add-next c = omega (arith, head_within _ _ _ c.requires.bytes_value)

pub slice_bounds-read-end : goal.slice_bounds-read-end
slice_bounds-read-end c = omega (arith, head_within _ _ _ c.requires.bytes_value)

pub overflow_add-at : goal.overflow_add-at
overflow_add-at c = omega (arith, fault_place _ _ _ (and_true _ _ c.requires.own_value).0 _ _ c.requires.bytes_value _ (rw c.in-Err.is at c.read.ensures))

pub ended-requires : goal.ended-requires
ended-requires c = (fault_place _ _ _ (and_true _ _ c.requires.own_value).0 _ _ c.requires.bytes_value _ (rw c.in-Err.is at c.read.ensures), c.requires.longest_in_bounds)

pub unwrap-requires : goal.unwrap-requires
unwrap-requires c = model_starts _ _ _ c.requires.own_value c.requires.longest_in_bounds _ _ c.requires.bytes_value _ _ (rw c.in-Ok.is at c.read.ensures) _ c.start.ensures

pub unwrap-end-requires : goal.unwrap-end-requires
unwrap-end-requires c = line_fits (omega (arith, c.requires.longest_in_bounds, model_most c.in-Ok.processes)) c.model_line.ensures

pub returns-in-Err : goal.returns-in-Err
returns-in-Err c = model_refused _ _ _ c.requires.own_value c.requires.longest_in_bounds _ _ c.requires.bytes_value _ _ (rw c.in-Err.is at c.read.ensures) c.ended.ensures

pub returns-in-Ok : goal.returns-in-Ok
returns-in-Ok c =
    model_started _ _ _ c.requires.own_value c.requires.longest_in_bounds _ _ c.requires.bytes_value _ _ (rw c.in-Ok.is at c.read.ensures) c.start.ensures
    (said _ c.unwrap-end.ensures (omega (arith, c.requires.longest_in_bounds, model_most c.in-Ok.processes)) c.model_line.ensures)
