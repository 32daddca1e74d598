-- A turn reads one rule more; a fault leaves, and after the last turn nothing is left to read.
use Rattle.std.proofs.Common.{◌≡◌, ◌-◌, sym, arith}
use Rattle.model.proofs.Steps.{leaves}
use Rattle.model.proofs.Loops.{start, stopped, ended}
use Rattle.model.proofs.Rules.{kind_small, rules_fault, rules_turn, rules_end}
use Rattle.model.proofs.rules_at.Goals as goal

pub loop-place-init : goal.loop-place-init
loop-place-init c = let all : c.args.count - 0 ≡ c.args.count = omega arith in rw all start

pub returns-in_err-rule : goal.returns-in_err-rule
returns-in_err-rule c = leaves _ c.from_residual.ensures (stopped c.loop-place.invariant (rules_fault _ _ _ _ _ _ _ c.loop-place-test.true (sym c.in_err-rule.ensures))) c.loop-place.invariant.kept

pub overflow_add-kind : goal.overflow_add-kind
overflow_add-kind c = omega (arith, kind_small _ _ _ _ _ (sym c.in_ok-rule.ensures))

pub loop-place-preserved : goal.loop-place-preserved
loop-place-preserved c = rules_turn _ _ _ _ _ _ _ c.loop-place-test.true c.loop-place.invariant (sym c.in_ok-rule.ensures) (rw c.encode.ensures at c.put.ensures)

pub returns : goal.returns
returns c = let all : c.loop-place.place ≡ c.args.count = omega arith in ended (rw all at c.loop-place.invariant) (rules_end _ _ _ _ _ _)
