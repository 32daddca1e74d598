-- The event that is due of one process, by its own rows and its input rows: the number that refuses it, what was judged, and what is left when it
-- is carried out.
use Rattle.std.specs.Prelude.{ℕ, ◌+◌, ◌≤◌, ◌<◌, ◌≡◌, Bool, true, cond, ◌&&◌, List, ◌++◌, map, leb, length, take, Result, Ok, Err}
use Rattle.definition.specs.declared.refusal.Refusal.{Refusal}
use Rattle.definition.specs.Answer.{refusal_number}
use Rattle.definition.specs.declared.Saved.{Saved}
use Rattle.definition.specs.Lists.{in_order}
use Rattle.definition.specs.Message.{Message, never}
use Rattle.definition.specs.Model.{Done}
use Rattle.definition.specs.State.{plus, entry_key, last, unread_after, reads_at}
use Rattle.lawful.specs.Changes.{worked}
use Rattle.queue.specs.Rows.{entry_of, entries, mails}
use Rattle.queue.specs.Queues.{received_at, Parted}
use Rattle.history.specs.Rows.{saved_at}
use Rattle.memory.specs.Memory.{number, process_of}
use Rattle.event.specs.Event.{event_of}
use Rattle.execute.specs.declared.Due.{Due}

-- rows that a lawful memory has for a process, beside so many rows in transit
pub record Sound (own q : List (List ℕ)) (mails : ℕ) : Type 0 where
  pub long : length own ≡ 33
  pub wide : length q ≡ 64
  pub inputs : number own 0 ≤ 64
  pub outputs : number own 1 ≤ 64
  pub events : number own 2 ≤ 32
  pub order : in_order entry_key (entries q (number own 0)) ≡ true
  pub mail : mails ≤ 128

-- the last executed event, the unread time, what is read then, and the event
abbrev pub last_of : List (List ℕ) → Saved
last_of own = last (record { mode = number own 3; tally = number own 4 }) (saved_at own (number own 2))

abbrev pub unread_of : List (List ℕ) → List (List ℕ) → ℕ
unread_of own q = unread_after (last_of own).time (entries q (number own 0))

abbrev pub reads_of : List (List ℕ) → List (List ℕ) → List Message
reads_of own q = reads_at (unread_of own q) (entries q (number own 0))

abbrev pub due_of : List (List ℕ) → List (List ℕ) → List (List ℕ) → ℕ → Done
due_of rules own q p = event_of rules (take (number own 0) q) p (unread_of own q) (last_of own).stand

-- there is room for so many messages more and an event more
abbrev pub room : ℕ → ℕ → ℕ → ℕ → Bool
room sent mails outputs events = leb (mails + sent) 128 && (leb (outputs + sent) 64 && leb (events + 1) 32)

-- 6 "no unread event", 7 "the state after the call would pass a bound"; 0 where nothing refuses the event at time t
unfoldable pub refusal : ℕ → ℕ → ℕ → ℕ → ℕ → ℕ
refusal t sent mails outputs events = cond (leb never t) 6 (cond (room sent mails outputs events) 0 7)

abbrev pub refusal_of : List (List ℕ) → List (List ℕ) → List (List ℕ) → ℕ → ℕ → ℕ
refusal_of rules own q mails p = refusal (unread_of own q) (length (due_of rules own q p).sends) mails (number own 1) (number own 2)

-- the event that was judged
pub record Going (rules own q : List (List ℕ)) (mails p : ℕ) (g : Due) : Type 0 where
  pub event : g.event ≡ record { time = unread_of own q; read = length (reads_of own q); stand = (due_of rules own q p).stand }
  pub usable : unread_of own q < never
  pub from : Parted entry_of received_at (take (number own 0) q) (unread_of own q) g.from
  pub sent : g.sent ≡ length (due_of rules own q p).sends
  pub before : g.before ≡ (last_of own).stand
  pub mail : mails + g.sent ≤ 128
  pub outputs : number own 1 + g.sent ≤ 64
  pub events : number own 2 < 32

-- whichever the process, p
abbrev pub Judged : List (List ℕ) → List (List ℕ) → List (List ℕ) → ℕ → Result Due Refusal → Type 0
Judged rules own q mails (Err r) = (p : ℕ) → refusal_number r ≡ refusal_of rules own q mails p
Judged rules own q mails (Ok g) = (p : ℕ) → Going rules own q mails p g

-- what is left: the process has worked its event, and what it sent is in transit
pub record Carried (rules own q output transit : List (List ℕ)) (n p : ℕ) (own' output' transit' : List (List ℕ)) : Type 0 where
  pub process : process_of own' q output' ≡ worked (unread_of own q) (process_of own q output) (due_of rules own q p)
  pub mail : mails transit' (n + length (due_of rules own q p).sends) ≡ mails transit n ++ map plus (due_of rules own q p).sends
  pub inputs : number own' 0 ≤ 64
  pub outputs : number own' 1 ≤ 64
  pub events : number own' 2 ≤ 32
