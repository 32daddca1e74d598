-- A turn that is refused ends the input; after one that printed the next call stands where it says.
use Rattle.rehearsal.specs.Moving.{at_next, at_end}
use Rattle.rehearse.proofs.put.Goals as goal

pub returns-in_default-clause-goes_on : goal.returns-in_default-clause-goes_on
returns-in_default-clause-goes_on g c = at_end

pub returns-clause-goes_on : goal.returns-clause-goes_on
returns-clause-goes_on g c = rw c.in-Ok.is at_next
