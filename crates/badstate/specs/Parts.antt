-- The parts in which a memory is tested, each a conjunction of what `lawful` of crate memory asks of it: the rows of one process, the numbers of
-- the whole with the rows in transit.
use Rattle.std.specs.Prelude.{Bool, cond, ◌&&◌, [], ◌∷◌, ℕ, length, get_or, leb, ltb, eqb}
use Rattle.definition.specs.Lists.{all}
use Rattle.definition.specs.Message.{never}
use Rattle.definition.specs.BadState.{ok_process, ok_mail}
use Rattle.queue.specs.Rows.{mails}
use Rattle.memory.specs.Memory.{Memory, Table, Rows, number, process_of, shaped_at}

-- a memory that holds the rows of one process alone
abbrev pub alone : Rows → Rows → Rows → Memory
alone own inputs outputs = record { model = []; inputs = inputs ∷ []; outputs = outputs ∷ []; transit = []; own = own ∷ [] }

-- process p of n, by its shape and what it says; h is the horizon
unfoldable pub lawful_process : ℕ → ℕ → ℕ → Rows → Rows → Rows → Bool
unfolding shaped_at ok_process
lawful_process n h p own inputs outputs = shaped_at (alone own inputs outputs) 0 && ok_process n h p (process_of own inputs outputs)

abbrev pub lawful_at : ℕ → ℕ → Table → Table → Table → ℕ → Bool
lawful_at n h own inputs outputs p = lawful_process n h p (get_or own p []) (get_or inputs p []) (get_or outputs p [])

-- horizon, next request number, last recorded time
unfoldable pub ok_numbers : ℕ → ℕ → ℕ → Bool
ok_numbers h next recorded = leb h never && (leb next 1_000_000_000 && cond (eqb h 0) (eqb recorded 0) (ltb recorded h))

-- the numbers of the whole, and what is in transit
unfoldable pub lawful_whole : ℕ → Rows → Rows → Bool
unfolding all ok_numbers
lawful_whole n whole transit =
    eqb (length transit) 128 && (eqb (length whole) 33 && (leb (number whole 0) 128
    && (all (ok_mail n (number whole 1)) (mails transit (number whole 0)) && ok_numbers (number whole 1) (number whole 2) (number whole 3))))
