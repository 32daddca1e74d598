-- A number has one digit more than its tenth.
use Rattle.states.proofs.page.+digits.Given as goal

abbrev pub decreases-digits : goal.decreases-digits
decreases-digits l = l.number
