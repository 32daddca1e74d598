-- `house::read` meets its contract. The loop's invariant: the number at `at` is what the groups so far and the bytes that are left give, and the groups
-- so far leave room for those that may follow.
use Rattle.std.proofs.Common.{◌≡◌, drop}
use Rattle.definition.specs.House.{read_groups, number_at}
use Rattle.house.specs.Groups.{Room}
use Rattle.house.proofs.read.Given as goal

abbrev pub invariant-loop-next : goal.invariant-loop-next
invariant-loop-next l = Room l.more l.weight l.value × (number_at l.bytes l.at ≡ read_groups l.more l.weight l.value l.next (drop l.next l.bytes))
