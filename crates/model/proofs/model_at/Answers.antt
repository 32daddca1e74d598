-- As many processes as are said are the whole model where nothing is left.
use Rattle.std.proofs.Common.{sym}
use Rattle.definition.specs.ModelBytes.{model_in}
use Rattle.model.specs.Accepted.{process_count}
use Rattle.model.proofs.Promise.{model_stored}
use Rattle.model.proofs.model_at.Goals as goal

pub returns : goal.returns
unfolding model_in
returns c = model_stored c.args.bytes.now _ c.in_ok-processes-2.ensures c.if-next-bytes.false (λ M e. process_count _ _ _ 1 8 0 (sym c.in_ok-processes.ensures) e) (rw (sym c.in_ok-processes.ensures))
