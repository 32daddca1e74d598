-- `house::length` meets its contract. The loop's invariant: the bytes counted and those of what is left are the number's. The measure is what is left.
use mathlib.Core.Path.{◌≡◌}
use Prim.Native.Nat.{◌+◌, ◌≤◌}
use lib.ListN.{length}
use Rattle.definition.specs.House.{largest, house}
use Rattle.house.proofs.length.Given as goal

abbrev pub invariant-loop-rest : goal.invariant-loop-rest
invariant-loop-rest l = (l.rest ≤ largest) × (l.size + length (house l.rest) ≡ 1 + length (house l.number))

abbrev pub decreases-loop-rest : goal.decreases-loop-rest
decreases-loop-rest l = l.rest
