-- What rows of eight words say: the one decoding that every promise over rows goes by. A row is the seven words of a message, in the reading order
-- (receive time, send time, sender, ordinal, kind, value, receiver), and one word more: in an input queue the net count + 256, in transit 0 for an
-- antimessage and 1 for a message, in an output queue nothing.
use Rattle.std.specs.Prelude.{ℕ, ◌-◌, cond, List, [], ◌∷◌, map, leb, eqb, ℤ, pos, negsuc, get_or, take}
use Rattle.definition.specs.Message.{Message}
use Rattle.definition.specs.State.{Entry, Mail, entry}

abbrev pub message_of : List ℕ → Message
message_of r =
    record { sender = get_or r 2 0; sent = get_or r 1 0; ordinal = get_or r 3 0; receiver = get_or r 6 0; received = get_or r 0 0; kind = get_or r 4 0; value = get_or r 5 0 }

-- a message of these fields
abbrev pub message_from : ℕ → ℕ → ℕ → ℕ → ℕ → ℕ → ℕ → Message
message_from sender sent ordinal receiver received kind value =
    record { sender = sender; sent = sent; ordinal = ordinal; receiver = receiver; received = received; kind = kind; value = value }

unfoldable pub net_of : ℕ → ℤ
net_of c = cond (leb 256 c) (pos (c - 256)) (negsuc (255 - c))

abbrev pub entry_of : List ℕ → Entry
entry_of r = entry (message_of r) (net_of (get_or r 7 0))

abbrev pub mail_of : List ℕ → Mail
mail_of r = record { message = message_of r; anti = eqb (get_or r 7 0) 0 }

-- what the first n of the rows q say: as an input queue, as transit, as an output queue
abbrev pub entries : List (List ℕ) → ℕ → List Entry
entries q n = map entry_of (take n q)

abbrev pub mails : List (List ℕ) → ℕ → List Mail
mails q n = map mail_of (take n q)

abbrev pub messages : List (List ℕ) → ℕ → List Message
messages q n = map message_of (take n q)

-- the row e with another last word
abbrev pub with_last : List ℕ → ℕ → List ℕ
with_last e w = get_or e 0 0 ∷ get_or e 1 0 ∷ get_or e 2 0 ∷ get_or e 3 0 ∷ get_or e 4 0 ∷ get_or e 5 0 ∷ get_or e 6 0 ∷ w ∷ []
