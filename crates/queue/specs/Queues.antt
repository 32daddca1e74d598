-- What the functions over rows promise and ask for, in the words of `definition`: each speaks of the lists that the rows say.
use Prim.Native.Nat.{ℕ, suc, ◌+◌, ◌-◌, ◌≤◌, ◌<◌, Ordering}
use Rattle.std.specs.Prelude.{◌≡◌, Bool, true, false, cond, ◌&&◌, List, [], ◌∷◌, ◌++◌, map, leb, ltb, eqb, pos, length, get_or, take, drop, Option, None, Some, Result, Ok, Err}
use Rattle.definition.specs.Lists.{keep, compare_keys}
use Rattle.definition.specs.Message.{Message, message_key}
use Rattle.definition.specs.State.{Entry, entry, arrived, is_zero, positive, reads_at, counted}
use Rattle.definition.specs.BadState.{ok_nets}
use Rattle.queue.specs.Rows.{message_of, entry_of}

-- ---- what a function leaves

-- r rows are held, and they say the list l
pub record Holds {A : Type 0} (held : ℕ → List A) (r : ℕ) (l : List A) : Type 0 where
  pub same : held r ≡ l
  pub many : r ≡ length l

-- ---- where a message stands

-- how the message of row a stands to that of row b
abbrev pub reading_order : List ℕ → List ℕ → Ordering
reading_order a b = compare_keys (message_key (message_of a)) (message_key (message_of b))

-- of the rows q the first i are read before m, and the one after them is not
pub record Placed (q : List (List ℕ)) (m : List ℕ) (i : ℕ) : Type 0 where
  pub fits : i ≤ length q
  pub first : (k : ℕ) → k < i → reading_order m (get_or q k []) ≡ Ordering.gt
  pub last : i < length q → reading_order m (get_or q i []) ≡ Ordering.gt → ⊥

-- of the rows q the one before place k has a word w below t, and the one at k has not
pub record Cut (w : ℕ) (q : List (List ℕ)) (t k : ℕ) : Type 0 where
  pub fits : k ≤ length q
  pub last : 0 < k → get_or (get_or q (k - 1) []) w 0 < t
  pub next : k < length q → t ≤ get_or (get_or q k []) w 0

-- of what the rows q say the first k have a time before t, and no other has
pub record Parted {A : Type 0} (said : List ℕ → A) (time : A → ℕ) (q : List (List ℕ)) (t k : ℕ) : Type 0 where
  pub fits : k ≤ length q
  pub before : map said (take k q) ≡ keep (λ (x : A). ltb (time x) t) (map said q)
  pub after : map said (drop k q) ≡ keep (λ (x : A). leb t (time x)) (map said q)
  pub many_before : k ≡ length (keep (λ (x : A). ltb (time x) t) (map said q))
  pub many_after : length q - k ≡ length (keep (λ (x : A). leb t (time x)) (map said q))

-- the time by which an output queue is parted, and that of an input queue
abbrev pub sent_at : Message → ℕ
sent_at m = m.sent

abbrev pub received_at : Entry → ℕ
received_at e = e.message.received

-- ---- an arrival

-- the net count + 256 in row i
abbrev pub count_at : List (List ℕ) → ℕ → ℕ
count_at q i = get_or (get_or q i []) 7 0

-- a net count + 256 after one more arrival, of an antimessage (true) or a message
abbrev pub moved : Bool → ℕ → ℕ
moved true c = c - 1
moved false c = c + 1

-- the queue l where entry i is counted once more, and where m is new at place i
unfoldable pub recounted : Bool → ℕ → List Entry → List Entry
recounted anti i l =
    let e : Entry = get_or l i (entry_of []) in
    take i l ++ cond (is_zero (arrived anti e.net)) (drop (suc i) l) (entry e.message (arrived anti e.net) ∷ drop (suc i) l)

unfoldable pub added : Bool → ℕ → Message → List Entry → List Entry
added anti i m l = take i l ++ entry m (arrived anti (pos 0)) ∷ drop i l

-- where the message of row m stands in the queue that the rows q hold: its entry, which an arrival counts once more, or else the place where it is new
abbrev pub Found : List (List ℕ) → List ℕ → Result ℕ ℕ → Type 0
Found q m (Ok i) = (i < length q) × ((anti : Bool) → counted anti (message_of m) (map entry_of q) ≡ recounted anti i (map entry_of q))
Found q m (Err i) = (i ≤ length q) × ((anti : Bool) → counted anti (message_of m) (map entry_of q) ≡ added anti i (message_of m) (map entry_of q))

-- an arrival judged before it is made, which would leave the queue l where there are n entries: how many there would be, or that a net count would
-- pass its bound
abbrev pub Judged : ℕ → List Entry → Option ℕ → Type 0
Judged n l None = (ok_nets l ≡ false) × (length l ≡ n)
Judged n l (Some r) = (ok_nets l ≡ true) × (r ≡ length l)

-- ---- an event

-- an event at time t reads this entry
abbrev pub is_read : ℕ → Entry → Bool
is_read t e = eqb e.message.received t && positive e.net

-- what an event at time t still reads from row i of the rows q on
abbrev pub reads_from : ℕ → List (List ℕ) → ℕ → List Message
reads_from t q i = reads_at t (map entry_of (drop i q))

-- this entry is unread after time t
abbrev pub is_unread : ℕ → Entry → Bool
is_unread t e = ltb t e.message.received && positive e.net
