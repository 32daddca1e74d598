use mathlib.Core.Path.{ap}
use native.Mathlib.Omega.{arith}
use lib.ListN.{length}
use Rattle.house.specs.Numbers.{house_most, house_one, house_more}
use Rattle.house.proofs.length.Goals as goal

pub loop-rest-init : goal.loop-rest-init
loop-rest-init c = omega arith

pub overflow_add-size : goal.overflow_add-size
overflow_add-size c = omega (arith, house_most c.args.number)

pub loop-rest-smaller : goal.loop-rest-smaller
loop-rest-smaller c = omega arith

pub loop-rest-preserved : goal.loop-rest-preserved
loop-rest-preserved c = omega (arith, ap length (house_more c.loop-rest.rest (omega arith) (omega arith)))

pub returns : goal.returns
returns c = omega (arith, ap length (house_one c.loop-rest.rest (omega arith)))
