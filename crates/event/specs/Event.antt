-- What the functions that walk an event's rows promise and ask for, in the words of `definition`: the sends of a rule, one row, the whole event.
use Rattle.std.specs.Prelude.{ℕ, ◌+◌, ◌*◌, ◌≤◌, ◌≡◌, true, cond, Option, Some, None, List, [], ◌∷◌, ◌++◌, map, length}
use Rattle.std.proofs.Math.Option.{some}
use Rattle.definition.specs.declared.Send.{Send}
use Rattle.definition.specs.declared.Stand.{Stand}
use Rattle.definition.specs.Lists.{in_order}
use Rattle.definition.specs.Message.{Message, last_usable}
use Rattle.definition.specs.Model.{Done, send_all, read_by, read_all}
use Rattle.definition.specs.State.{plus, entry_key, reads_at}
use Rattle.queue.specs.Rows.{message_of, entry_of, messages, mails}
use Rattle.queue.specs.Queues.{is_read}
use Rattle.rule.specs.declared.Decoded.{Decoded}
use Rattle.rule.specs.Rows.{rule_of, rule_at}
use Rattle.event.specs.declared.Outbox.{Outbox}
use Rattle.event.specs.declared.Walk.{Walk}

-- ---- what is sent

-- k messages are sent by these sends at time t, whichever the process, the ordinals, the tally and the value read
abbrev pub Counted : ℕ → List Send → ℕ → Type 0
Counted t ss k = (p o tally v : ℕ) → k ≡ length (send_all p t o tally v ss)

-- there is room for the messages l in an outbox
abbrev pub RoomFor : List Message → Outbox → Type 0
RoomFor l o = (o.mails + length l ≤ length o.transit.now) × (o.sends + length l ≤ length o.output.now)

-- they have joined both of its lists, and it was o before
pub record Joined (l : List Message) (o r : Outbox) : Type 0 where
  pub mail : mails r.transit.now r.mails ≡ mails o.transit.now o.mails ++ map plus l
  pub sent : messages r.output.now r.sends ≡ messages o.output.now o.sends ++ l
  pub mails : r.mails ≡ o.mails + length l
  pub sends : r.sends ≡ o.sends + length l
  pub transit : length r.transit.now ≡ length o.transit.now
  pub output : length r.output.now ≡ length o.output.now

-- it still lends the rows that it lent
abbrev pub SameRows : Outbox → Outbox → Type 0
SameRows r o = (r.transit.ghost_name ≡ o.transit.ghost_name) × (r.output.ghost_name ≡ o.output.ghost_name)

-- ---- how far an event has come

-- it begins here
abbrev pub start_at : Stand → Walk
start_at s = record { stand = s; ordinal = 0; read = 0; sent = 0 }

-- no farther than i rows bring it
pub record Within (i : ℕ) (w : Walk) : Type 0 where
  pub ordinal : w.ordinal ≤ 2 * i
  pub read : w.read ≤ i
  pub sent : w.sent ≤ 2 * i

-- so many messages read, which do d, lead from w to r
pub record Moved (many : ℕ) (d : Done) (w r : Walk) : Type 0 where
  pub stand : r.stand ≡ d.stand
  pub ordinal : r.ordinal ≡ d.ordinal
  pub read : r.read ≡ w.read + many
  pub sent : r.sent ≡ w.sent + length d.sends
  pub near : (i : ℕ) → Within i w → Within (i + 1) r

-- a rule answers a message with this value, whichever the process
abbrev pub Answered : Decoded → ℕ → ℕ → Walk → Walk → Type 0
Answered rule t v w r = (p : ℕ) → Moved 1 (read_by (some (rule_of rule)) p t w.ordinal w.stand v) w r

-- what an event at time t reads of one row: its message, or nothing
abbrev pub read_of : ℕ → List ℕ → List Message
read_of t e = cond (is_read t (entry_of e)) (message_of e ∷ []) []

-- what these messages do from w on, by the rules in these rows
abbrev pub done_from : List (List ℕ) → ℕ → ℕ → Walk → List Message → Done
done_from rules p t w ms = read_all (map rule_at rules) p t w.ordinal w.stand ms

-- a row is read, whichever the process
abbrev pub RowRead : List (List ℕ) → ℕ → List ℕ → Walk → Walk → Type 0
RowRead rules t e w r = (p : ℕ) → Moved (length (read_of t e)) (done_from rules p t w (read_of t e)) w r

-- what a rule that was found sends
abbrev pub found_sends : Option Decoded → ℕ → ℕ → ℕ → ℕ → ℕ → List Message
found_sends None p t o tally v = []
found_sends (Some rule) p t o tally v = send_all p t o tally v (rule_of rule).sends

-- of a row that leads from w to r it is what the row sends, whichever the process
abbrev pub RowSends : List (List ℕ) → ℕ → List ℕ → Walk → Walk → Option Decoded → Type 0
RowSends rules t e w r f = (p : ℕ) → (done_from rules p t w (read_of t e)).sends ≡ found_sends f p t w.ordinal r.stand.tally (message_of e).value

-- ---- the event at time t, by the rows of a queue that it may read

-- they are few and in order, and the time is usable
pub record Readable (rows : List (List ℕ)) (t : ℕ) : Type 0 where
  pub few : length rows ≤ 64
  pub order : in_order entry_key (map entry_of rows) ≡ true
  pub usable : t ≤ last_usable

abbrev pub event_of : List (List ℕ) → List (List ℕ) → ℕ → ℕ → Stand → Done
event_of rules rows p t s = read_all (map rule_at rules) p t 0 s (reads_at t (map entry_of rows))

-- it reads so many messages and does d
pub record Outcome (many : ℕ) (d : Done) (r : Walk) : Type 0 where
  pub stand : r.stand ≡ d.stand
  pub read : r.read ≡ many
  pub sent : r.sent ≡ length d.sends
  pub within : Within 64 r

-- the event comes to r, whichever the process
abbrev pub ComesTo : List (List ℕ) → List (List ℕ) → ℕ → Stand → Walk → Type 0
ComesTo rules rows t s r = (p : ℕ) → Outcome (length (reads_at t (map entry_of rows))) (event_of rules rows p t s) r
