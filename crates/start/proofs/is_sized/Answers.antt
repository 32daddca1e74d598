-- The tests of the definition, but for those that the types of the elements answer.
use Rattle.std.proofs.Common.{arith}
use Rattle.std.proofs.lemmas.Grind.{common_steps}
use Rattle.start.proofs.Sizes.{sized_is}
use Rattle.start.proofs.is_sized.Goals as goal

pub returns-then-transit-eq-TRANSIT : goal.returns-then-transit-eq-TRANSIT
returns-then-transit-eq-TRANSIT c n few = rw (sized_is n _ _ c.args.transit.now _ few c.told-inputs c.told-outputs c.told-own) (grind (arith, common_steps))

pub returns-else-transit-eq-TRANSIT : goal.returns-else-transit-eq-TRANSIT
returns-else-transit-eq-TRANSIT c n few = rw (sized_is n _ _ c.args.transit.now _ few c.told-inputs c.told-outputs c.told-own) (grind (arith, common_steps))
