-- The first rows of the processes passed are put down, and no other row has changed.
use Rattle.std.proofs.Common.{◌≡◌, ℕ, ◌≤◌, ◌<◌, [], get_or}
use Rattle.start.specs.First.{first_rows}
use Rattle.start.proofs.place.Given as goal

abbrev pub invariant-loop-p : goal.invariant-loop-p
invariant-loop-p l =
    record {
      placed : (j : ℕ) → j < l.p → get_or l.own j [] ≡ first_rows l.model l.initial.own j;
      rest : (j : ℕ) → l.p ≤ j → get_or l.own j [] ≡ get_or l.initial.own j [];
    }
