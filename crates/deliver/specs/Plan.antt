-- A delivery over the rows of the one process that receives: its rollback, the plan that is judged before anything is written, and what is left
-- when it is carried out.
use Rattle.std.specs.Prelude.{◌≡◌, Bool, true, false, ◌&&◌, List, ◌++◌, map, ◌⊎◌, ℕ, ◌+◌, ◌-◌, ◌≤◌, leb, length, take, Result, Ok, Err}
use Rattle.definition.specs.declared.refusal.Refusal.{Refusal as Reason}
use Rattle.definition.specs.Answer.{refusal_number}
use Rattle.definition.specs.Lists.{in_order}
use Rattle.definition.specs.Message.{output_key}
use Rattle.definition.specs.State.{Process, Entry, Mail, entry_key, before, from, sent_from, counted, minus, without}
use Rattle.definition.specs.Calls.{rolled_back, met}
use Rattle.definition.specs.BadState.{ok_nets}
use Rattle.queue.specs.Rows.{message_of, entries, messages, mails}
use Rattle.queue.specs.Queues.{sent_at, Parted}
use Rattle.history.specs.Rows.{InOrder, saved_at}
use Rattle.memory.specs.Memory.{Rows, number, process_of}
use Rattle.deliver.specs.declared.Rollback.{Rollback}

-- ---- the rollback of one process

-- its output rows and its own rows: as many as there must be, and in order
pub record Ordered (outputs own : Rows) : Type 0 where
  pub own_rows : length own ≡ 33
  pub output_rows : length outputs ≡ 64
  pub few_sends : number own 1 ≤ 64
  pub few_events : number own 2 ≤ 32
  pub output_order : in_order output_key (messages outputs (number own 1)) ≡ true
  pub history_order : InOrder (saved_at own (number own 2))

-- to time t: what it keeps, and how much it removes
pub record RolledBack (outputs own : Rows) (t : ℕ) (r : Rollback) : Type 0 where
  pub sends_kept : Parted message_of sent_at (take (number own 1) outputs) t r.sends
  pub few_events : r.events ≤ number own 2
  pub events_kept : saved_at own r.events ≡ before t (saved_at own (number own 2))
  pub cancelled_sends : r.cancelled ≡ number own 1 - r.sends
  pub undone_events : r.undone ≡ length (from t (saved_at own (number own 2)))

-- ---- message x for a process, beside n messages in transit

-- rows that a lawful memory has for a process
pub record Sound (inputs outputs own : Rows) : Type 0 where
  pub input_rows : length inputs ≡ 64
  pub few_entries : number own 0 ≤ 64
  pub input_order : in_order entry_key (entries inputs (number own 0)) ≡ true
  pub nets : ok_nets (entries inputs (number own 0)) ≡ true
  pub ordered : Ordered outputs own

-- the input queue with the message counted, and whether the state after the delivery passes no bound
abbrev pub arrival : Mail → Process → List Entry
arrival x pr = counted x.anti x.message pr.input

abbrev pub room : ℕ → Mail → Process → Bool
room n x pr = leb (n - 1 + length (sent_from x.message.received pr.output)) 128 && leb (length (arrival x pr)) 64

-- it is refused: by 16 where a net count would pass its bound, else by 7 where there is no room
abbrev pub Refusal : ℕ → Mail → Process → ℕ → Type 0
Refusal n x pr k = ((k ≡ 16) × (ok_nets (arrival x pr) ≡ false)) ⊎ ((k ≡ 7) × (ok_nets (arrival x pr) ≡ true) × (room n x pr ≡ false))

-- it may be made, and r is the rollback that it brings
pub record Going (inputs outputs own : Rows) (n : ℕ) (x : Mail) (r : Rollback) : Type 0 where
  pub rolled : RolledBack outputs own x.message.received r
  pub nets : ok_nets (arrival x (process_of own inputs outputs)) ≡ true
  pub input_room : length (arrival x (process_of own inputs outputs)) ≤ 64
  pub transit_room : n - 1 + r.cancelled ≤ 128

abbrev pub Planned : Rows → Rows → Rows → ℕ → Mail → Result Rollback Reason → Type 0
Planned inputs outputs own n x (Err k) = Refusal n x (process_of own inputs outputs) (refusal_number k)
Planned inputs outputs own n x (Ok r) = Going inputs outputs own n x r

-- it is made, from place i of transit
pub record Carried (inputs outputs transit own : Rows) (n i : ℕ) (x : Mail) (r : Rollback) (inputs' transit' own' : Rows) : Type 0 where
  pub process : process_of own' inputs' outputs ≡ met x (rolled_back x.message.received (process_of own inputs outputs)).kept
  pub mail : mails transit' (n - 1 + r.cancelled) ≡ without i (mails transit n) ++ map minus (sent_from x.message.received (messages outputs (number own 1)))
  pub few_entries : number own' 0 ≤ 64
  pub few_sends : number own' 1 ≤ 64
  pub few_events : number own' 2 ≤ 32
