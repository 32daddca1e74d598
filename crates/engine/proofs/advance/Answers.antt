-- A memory that is not lawful is refused by 16 and left as it was, the buffer too.
use Rattle.std.proofs.lemmas.Result.{err_from_is_err_and}
use Rattle.engine.proofs.Unlawful.{committed_unlawful}
use Rattle.engine.proofs.advance.Goals as goal

pub returns-in_err-check : goal.returns-in_err-check
returns-in_err-check c =
    let p = err_from_is_err_and c.from_residual.result c.from_residual.ensures.1 in
    rw (p.1, p.2, c.in_err-check.ensures.0) (committed_unlawful _ c.args.ceiling _ _ c.in_err-check.ensures.1)
