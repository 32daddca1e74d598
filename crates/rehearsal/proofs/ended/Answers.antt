-- A fault's line has at most 39 bytes, and the text has room for more.
use native.Mathlib.Omega.{arith}
use Rattle.definition.specs.Answer.{refusal_number}
use Rattle.text.specs.Lines.{fault_most}
use Rattle.lines.specs.Events.{line_fits}
use Rattle.rehearsal.proofs.Saying.{said}
use Rattle.rehearsal.proofs.ended.Goals as goal

pub unwrap-end-requires : goal.unwrap-end-requires
unwrap-end-requires c = line_fits (omega (arith, c.requires.1, fault_most c.args.part c.from-number.result c.args.fault.at)) c.fault_line.ensures

pub returns : goal.returns
returns c =
    said _ c.unwrap-end.ensures (omega (arith, c.requires.1, fault_most c.args.part (refusal_number c.args.fault.refusal) c.args.fault.at))
    (rw c.from-number.ensures at c.fault_line.ensures)
