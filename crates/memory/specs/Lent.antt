-- The lists of a memory as one value: what they say, and that they are still the same lists.
use Rattle.std.specs.Prelude.{◌≡◌}
use Rattle.memory.specs.declared.Lent.{Lent}
use Rattle.memory.specs.Memory.{Memory, held}

abbrev pub said : Lent → Memory
said m = held m.model.now m.inputs.now m.outputs.now m.transit.now m.own.now

-- n lends the lists that m lent: whoever made the value so finds in them what it says at the end
abbrev pub SameLists : Lent → Lent → Type 0
SameLists n m =
    (n.model ≡ m.model) × (n.inputs.ghost_name ≡ m.inputs.ghost_name) × (n.outputs.ghost_name ≡ m.outputs.ghost_name) × (n.transit.ghost_name ≡ m.transit.ghost_name) × (n.own.ghost_name ≡ m.own.ghost_name)
