-- The invariant: so many processes are done, and what is left to read from here gives the rest.
use Rattle.std.specs.Prelude.{◌-◌}
use Rattle.definition.specs.ModelBytes.{setups_at}
use Rattle.model.specs.Stored.{put_process}
use Rattle.model.proofs.Loops.{Going}
use Rattle.model.proofs.processes_at.Given as goal

abbrev pub invariant-loop-place : goal.invariant-loop-place
invariant-loop-place l = Going (put_process l.processes) (setups_at l.bytes (l.processes - 1) l.processes l.at) l.initial.model l.place (setups_at l.bytes (l.processes - 1) (l.processes - l.place) l.next) l.model
