-- The invariant: so many rules are done, and what is left to read from here gives the rest.
use Rattle.std.specs.Prelude.{◌-◌}
use Rattle.definition.specs.ModelBytes.{rules_at}
use Rattle.model.specs.Stored.{put_rule}
use Rattle.model.proofs.Loops.{Going}
use Rattle.model.proofs.rules_at.Given as goal

abbrev pub invariant-loop-place : goal.invariant-loop-place
invariant-loop-place l = Going put_rule (rules_at l.bytes l.highest 0 0 l.count l.at) l.initial.rows l.place (rules_at l.bytes l.highest l.mode l.kind (l.count - l.place) l.next) l.rows
