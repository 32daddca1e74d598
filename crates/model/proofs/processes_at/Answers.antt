-- A turn reads one process more; a fault leaves, and after the last turn nothing is left to read.
use Rattle.std.proofs.Common.{◌≡◌, ◌-◌, sym, ◌∙◌, arith}
use Rattle.model.proofs.Steps.{leaves}
use Rattle.model.proofs.Loops.{start, stopped, ended}
use Rattle.model.proofs.Rules.{setups_fault, setups_turn, setups_end}
use Rattle.model.proofs.processes_at.Goals as goal

pub loop-place-init : goal.loop-place-init
loop-place-init c = let all : c.args.processes - 0 ≡ c.args.processes = omega arith in rw all start

pub returns-in_err-next : goal.returns-in_err-next
returns-in_err-next c = leaves _ c.from_residual.ensures (stopped c.loop-place.invariant (setups_fault _ _ _ _ _ c.loop-place-test.true (sym c.in_err-next.ensures.answer))) (c.process_at.ensures.kept ∙ c.loop-place.invariant.kept)

pub loop-place-preserved : goal.loop-place-preserved
loop-place-preserved c = setups_turn _ _ _ _ _ _ c.loop-place-test.true c.loop-place.invariant c.process_at.ensures (sym c.in_ok-next.ensures.answer)

pub returns : goal.returns
returns c = let all : c.loop-place.place ≡ c.args.processes = omega arith in ended (rw all at c.loop-place.invariant) (setups_end _ _ _ _)
