-- The second reading puts what the first accepted.
use Rattle.std.proofs.Common.{sym, ◌∙◌}
use Rattle.model.proofs.Promise.{promised}
use Rattle.model.proofs.read.Goals as goal

pub returns : goal.returns
returns c = promised (sym c.has_room.ensures ∙ c.if-not-has_room.false) (rw c.unwrap-processes.ensures at c.model_at-2.ensures)
