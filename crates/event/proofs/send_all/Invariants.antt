-- The messages of the sends so far have joined.
use Rattle.std.proofs.Common.{take}
use Rattle.definition.specs.Model.{send_all}
use Rattle.event.specs.Event.{Joined, SameRows}
use Rattle.event.proofs.send_all.Given as goal

abbrev pub invariant-loop-i : goal.invariant-loop-i
invariant-loop-i l = record {
  joined : Joined (send_all l.process l.time l.ordinal l.tally l.value (take l.i l.sends)) l.initial.out l.out;
  same_rows : SameRows l.out l.initial.out;
}
