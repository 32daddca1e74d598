-- `house::write` meets its contract. The loop's invariant: with the bytes of what is left at `next`, the buffer is as promised, and they end where
-- the number's end. The measure is what is left.
use mathlib.Core.Path.{◌≡◌}
use Prim.Native.Nat.{◌+◌, ◌≤◌}
use lib.ListN.{length}
use lib.Seq.{sets}
use Rattle.definition.specs.House.{largest, house}
use Rattle.house.proofs.write.Given as goal

abbrev pub invariant-loop-rest : goal.invariant-loop-rest
invariant-loop-rest l =
    (l.rest ≤ largest) × (l.next + length (house l.rest) ≡ l.at + length (house l.number)) × (length l.buffer ≡ length l.initial.buffer)
    × (sets l.buffer l.next (house l.rest) ≡ sets l.initial.buffer l.at (house l.number))

abbrev pub decreases-loop-rest : goal.decreases-loop-rest
decreases-loop-rest l = l.rest
