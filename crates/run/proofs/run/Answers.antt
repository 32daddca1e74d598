-- `run::run` meets its contract: a start that is refused writes nothing; one that is not leaves a lawful memory with the first state of its model, and the
-- calls made on it are the model's rehearsal.
use Rattle.std.proofs.Common.{refl}
use Rattle.std.proofs.lemmas.Result.{err_from_is_err_and}
use Rattle.run.proofs.Starting.{no_refusal, run_refused, run_done}
use Rattle.run.proofs.run.Goals as goal

pub returns-in_err-start-clause-runs : goal.returns-in_err-start-clause-runs
returns-in_err-start-clause-runs c =
    let p = err_from_is_err_and c.from_residual.result c.from_residual.ensures.1 in
    rw (p.1, p.2) (run_refused _ _ _ _ c.in_err-start.ensures _ _ refl)

pub work-requires : goal.work-requires
work-requires c = c.in_ok-start.ensures.lawful_first (no_refusal _)

pub returns-clause-runs : goal.returns-clause-runs
returns-clause-runs c = run_done _ _ _ _ c.in_ok-start.ensures _ _ (no_refusal _) _ _ _ _ c.work.ensures.works
