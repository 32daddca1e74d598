-- What the five lent lists say: a state of the definition. Every memory says one, however damaged.
--   model        the model (Rows.antt of crate rule)
--   inputs[p]    the input queue of process p, and outputs[p] its output queue; transit: what is in transit (Rows.antt of crate queue)
--   own[p][0]    of process p: input rows, output rows, events, base mode, base tally; own[p][1 ..]: its events (Rows.antt of crate history)
--   own[8][0]    rows in transit, horizon, next request number, last recorded time
-- Rows after a count and words that are not named say nothing.
use Rattle.std.specs.Prelude.{Bool, true, not, ◌&&◌, List, [], ◌∷◌, ℕ, zero, suc, length, get_or, leb, eqb}
use Rattle.definition.specs.State.{Process, State}
use Rattle.definition.specs.BadState.{bad}
use Rattle.queue.specs.Rows.{entries, messages, mails}
use Rattle.history.specs.Rows.{saved_at}
use Rattle.rule.specs.Rows.{processes_of, model_of, shaped_model}

pub record Memory : Type 0 where
  pub model : List (List (List ℕ))
  pub inputs : List (List (List ℕ))
  pub outputs : List (List (List ℕ))
  pub transit : List (List ℕ)
  pub own : List (List (List ℕ))

-- ---- what it says

-- f k, f (k + 1) .., n of them; and whether all of those hold
unfoldable pub listed : {A : Type 0} → ℕ → ℕ → (ℕ → A) → List A
listed k zero f = []
listed k (suc n) f = f k ∷ listed (suc k) n f

unfoldable pub all_of : ℕ → ℕ → (ℕ → Bool) → Bool
all_of k zero f = true
all_of k (suc n) f = f k && all_of (suc k) n f

-- word k of the first of these rows
abbrev pub number : List (List ℕ) → ℕ → ℕ
number rows k = get_or (get_or rows 0 []) k 0

-- a process, by its own rows, its input rows and its output rows
abbrev pub process_of : List (List ℕ) → List (List ℕ) → List (List ℕ) → Process
process_of own inputs outputs =
    record {
      base = record { mode = number own 3; tally = number own 4 };
      input = entries inputs (number own 0);
      output = messages outputs (number own 1);
      history = saved_at own (number own 2);
    }

abbrev pub own_at : Memory → ℕ → List (List ℕ)
own_at m p = get_or m.own p []

abbrev pub input_at : Memory → ℕ → List (List ℕ)
input_at m p = get_or m.inputs p []

abbrev pub output_at : Memory → ℕ → List (List ℕ)
output_at m p = get_or m.outputs p []

abbrev pub process_at : Memory → ℕ → Process
process_at m p = process_of (own_at m p) (input_at m p) (output_at m p)

-- the numbers of the whole
abbrev pub whole : Memory → List (List ℕ)
whole m = own_at m 8

-- a process's first row with other counts, and the numbers of the whole with another count of rows in transit
abbrev pub with_counts : List ℕ → ℕ → ℕ → ℕ → List ℕ
with_counts numbers entries outputs events = entries ∷ outputs ∷ events ∷ get_or numbers 3 0 ∷ get_or numbers 4 0 ∷ 0 ∷ 0 ∷ 0 ∷ []

abbrev pub with_mails : List ℕ → ℕ → List ℕ
with_mails numbers mails = mails ∷ get_or numbers 1 0 ∷ get_or numbers 2 0 ∷ get_or numbers 3 0 ∷ 0 ∷ 0 ∷ 0 ∷ 0 ∷ []

unfoldable pub state_of : Memory → State
unfolding listed model_of
state_of m =
    record {
      model = model_of m.model;
      processes = listed 0 (processes_of m.model) (process_at m);
      transit = mails m.transit (number (whole m) 0);
      horizon = number (whole m) 1;
      next = number (whole m) 2;
      recorded = number (whole m) 3;
    }

-- ---- the shape: lists as long as they must be, and counts within them

unfoldable pub shaped_at : Memory → ℕ → Bool
shaped_at m p =
    eqb (length (input_at m p)) 64 && (eqb (length (output_at m p)) 64 && (eqb (length (own_at m p)) 33
    && (leb (number (own_at m p) 0) 64 && (leb (number (own_at m p) 1) 64 && leb (number (own_at m p) 2) 32))))

unfoldable pub shaped : Memory → Bool
unfolding shaped_model all_of shaped_at
shaped m =
    shaped_model m.model && (eqb (length m.inputs) 8 && (eqb (length m.outputs) 8 && (eqb (length m.transit) 128 && (eqb (length m.own) 9
    && (eqb (length (whole m)) 33 && (leb (number (whole m) 0) 128 && all_of 0 (processes_of m.model) (shaped_at m)))))))

-- a memory that a call works on; any other is refused by 16
unfoldable pub lawful : Memory → Bool
unfolding shaped state_of bad
lawful m = shaped m && not (bad (state_of m))

-- ---- memory as it is lent to a function

abbrev pub Table : Type 0
Table = List (List (List ℕ))

abbrev pub Rows : Type 0
Rows = List (List ℕ)

-- the five lists as they are held at entry, or at exit
abbrev pub held : Table → Table → Table → Rows → Table → Memory
held model inputs outputs transit own = record { model = model; inputs = inputs; outputs = outputs; transit = transit; own = own }
