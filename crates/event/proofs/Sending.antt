-- The sends of a rule one after the other, one message, and one row.
use Rattle.std.specs.Prelude.{ℕ, zero, suc, ◌≡◌, refl, Bool, true, false, cond, Option, Some, None, List, [], ◌∷◌, ◌++◌, ◌+◌, ◌≤◌, ◌<◌, min, leb, map, length, get_or, take, drop}
use Rattle.std.proofs.Common.{ap, sym, ◌∙◌, arith, add-one, add-zero, append_assoc, append-nil, length-take, length-take-le, length-append, take-append-drop}
use Rattle.std.proofs.Math.Option.{some}
use Rattle.std.proofs.Math.Seq.{take-nil}
use Rattle.std.proofs.lemmas.List.{take_more}
use Rattle.std.proofs.lemmas.List.Sums.{count_by-le-length, length-filter}
use Rattle.std.specs.List.{filter}
use Rattle.definition.specs.declared.Send.{Send}
use Rattle.definition.specs.declared.Value.TheVariants.{Fixed}
use Rattle.definition.specs.declared.Stand.{Stand}
use Rattle.definition.specs.Message.{Message, last_usable}
use Rattle.definition.specs.Model.{Rule, Done, effect_on, value_of, find, send_all, read_by, read_all}
use Rattle.queue.specs.Rows.{message_of, message_from, entry_of}
use Rattle.queue.specs.Queues.{is_read}
use Rattle.rule.specs.declared.Decoded.{Decoded}
use Rattle.rule.specs.Rows.{rule_of, rule_at}
use Rattle.found.specs.Search.{found_among, finds}
use Rattle.event.specs.declared.Walk.{Walk}
use Rattle.event.specs.Event.{Counted, Within, Moved, Answered, read_of, done_from, RowRead, RowSends}

-- ---- how far an event has come

pub within_all : (i : ℕ) (w : Walk) → i ≤ 64 → Within i w → Within 64 w
within_all i w h a = record { ordinal = omega (arith, a.ordinal); read = omega (arith, a.read); sent = omega (arith, a.sent) }

-- nothing is done, though k messages are read, one or none
abbrev pub nothing : Walk → Done
nothing w = record { stand = w.stand; sends = []; ordinal = w.ordinal }

still : (w r : Walk) (k : ℕ) → k ≤ 1 → r.stand ≡ w.stand → r.ordinal ≡ w.ordinal → r.read ≡ w.read + k → r.sent ≡ w.sent → Moved k (nothing w) w r
still w r k h es eo er ek =
    record {
      stand = es;
      ordinal = eo;
      read = er;
      sent = omega arith;
      near = λ i a. record { ordinal = omega (arith, a.ordinal); read = omega (arith, a.read); sent = omega (arith, a.sent) };
    }

-- ---- sends

-- one that is not there
abbrev pub no_send : Send
no_send = record { receiver = 0; delay = 0; kind = 0; value = Fixed 0 }

module _ (p t o y v : ℕ) where
  pub sends_none : send_all p t o y v [] ≡ []
  unfolding send_all
  sends_none = refl

  module _ (s : Send) where
    abbrev message_by : Message
    message_by = message_from p t o s.receiver (t + s.delay) s.kind (value_of s.value y v)

    -- one that would pass the last usable time is not sent
    pub send_late : leb (t + s.delay) last_usable ≡ false → send_all p t o y v (s ∷ []) ≡ []
    unfolding send_all
    send_late h = rw h

    pub send_timely : leb (t + s.delay) last_usable ≡ true → send_all p t o y v (s ∷ []) ≡ message_by ∷ []
    unfolding send_all
    send_timely h = rw h

    -- the row that was made for it, by the value told
    pub send_row : (m : List ℕ) (x : ℕ) → leb (t + s.delay) last_usable ≡ true → x ≡ value_of s.value y v → message_of m ≡ message_from p t o s.receiver (t + s.delay) s.kind x → send_all p t o y v (s ∷ []) ≡ message_of m ∷ []
    send_row m x h e k = send_timely h ∙ ap (λ (u : Message). u ∷ []) (sym (k ∙ ap (message_from p t o s.receiver (t + s.delay) s.kind) e))

    -- the others have the ordinals after it, whether or not it is sent
    pub sends_cons : (ss : List Send) → send_all p t o y v (s ∷ ss) ≡ send_all p t o y v (s ∷ []) ++ send_all p t (o + 1) y v ss
    unfolding send_all
    sends_cons ss = rw (add-one o) (go (leb (t + s.delay) last_usable))
      where
        rest : List Message
        rest = send_all p t (suc o) y v ss

        go : (b : Bool) → cond b (message_by ∷ rest) rest ≡ cond b (message_by ∷ []) [] ++ rest
        go true = refl
        go false = refl

module _ (p t y v : ℕ) where
  sends_append : (o : ℕ) (ss rest : List Send) → send_all p t o y v (ss ++ rest) ≡ send_all p t o y v ss ++ send_all p t (o + length ss) y v rest
  unfolding send_all
  sends_append o [] rest = rw add-zero
  sends_append o (s ∷ ss) rest =
      let after : o + 1 + length ss ≡ o + suc (length ss) = omega arith in
      sends_cons p t o y v s (ss ++ rest)
      ∙ ap (λ (l : List Message). send_all p t o y v (s ∷ []) ++ l) (sends_append (o + 1) ss rest)
      ∙ rw (after, sends_cons p t o y v s ss) (sym (append_assoc (send_all p t o y v (s ∷ [])) (send_all p t (o + 1) y v ss) (send_all p t (o + suc (length ss)) y v rest)))

  -- one send more: it has the ordinal of its place, and there is room for it
  module _ (o : ℕ) (ss : List Send) (i : ℕ) (h : i < length ss) where
    pub sends_more : send_all p t o y v (take (i + 1) ss) ≡ send_all p t o y v (take i ss) ++ send_all p t (o + i) y v (get_or ss i no_send ∷ [])
    sends_more =
        let fits : i ≤ length ss = omega arith in
        rw (take_more ss i no_send h) (sends_append o (take i ss) (get_or ss i no_send ∷ []) ∙ rw (length-take-le i ss fits))

    pub sends_room : length (send_all p t o y v (take i ss)) + length (send_all p t (o + i) y v (get_or ss i no_send ∷ [])) ≤ length (send_all p t o y v ss)
    sends_room =
        let all = ap length (ap (send_all p t o y v) (sym (take-append-drop (i + 1) ss)) ∙ sends_append o (take (i + 1) ss) (drop (i + 1) ss)) ∙ length-append (send_all p t o y v (take (i + 1) ss)) _ in
        let some = ap length sends_more ∙ length-append (send_all p t o y v (take i ss)) _ in
        omega (arith, all, some)

-- ---- how many are sent

abbrev pub sent_at : ℕ → Send → Bool
sent_at t s = leb (t + s.delay) last_usable

sends_counted : (p t o y v : ℕ) (ss : List Send) → length (filter (sent_at t) ss) ≡ length (send_all p t o y v ss)
unfolding send_all
sends_counted p t o y v [] = refl
sends_counted p t o y v (s ∷ ss) = go (sent_at t s) (sends_counted p t (suc o) y v ss)
  where
    rest : List Message
    rest = send_all p t (suc o) y v ss

    go : (b : Bool) → length (filter (sent_at t) ss) ≡ length rest → length (cond b (s ∷ filter (sent_at t) ss) (filter (sent_at t) ss)) ≡ length (cond b (message_by p t o y v s ∷ rest) rest)
    go true h = ap suc h
    go false h = h

pub counted_few : (t : ℕ) (ss : List Send) (k : ℕ) → Counted t ss k → k ≤ length ss
counted_few t ss k e = omega (arith, e 0 0 0 0, sends_counted 0 t 0 0 0 ss, length-filter (sent_at t) ss, count_by-le-length (sent_at t) ss)

-- ---- the sends of a rule, by their count

module _ (d : Decoded) where
  abbrev both : List Send
  both = d.first ∷ d.second ∷ []

  pub rule_length : length (rule_of d).sends ≡ min d.count 2
  rule_length = length-take d.count both

  pub both_sends : 2 ≤ d.count → (rule_of d).sends ≡ both
  both_sends h = go d.count h
    where
      go : (k : ℕ) → 2 ≤ k → take k both ≡ both
      go zero h = absurd (omega arith)
      go (suc zero) h = absurd (omega arith)
      go (suc (suc k)) h = ap (λ (l : List Send). d.first ∷ d.second ∷ l) (take-nil k)

  pub rule_sends : (n : ℕ) → n ≡ length (rule_of d).sends → take n both ≡ (rule_of d).sends
  rule_sends n e = ap (λ (k : ℕ). take k both) e ∙ go d.count
    where
      go : (k : ℕ) → take (length (take k both)) both ≡ take k both
      go zero = refl
      go (suc zero) = refl
      go (suc (suc k)) = ap (λ (l : List Send). d.first ∷ d.second ∷ l) (take-nil (length (take {A = Send} k [])) ∙ sym (take-nil k))

-- ---- one message that a rule answers: the stand, the ordinals used and the messages are those of the rule

module _ (t v : ℕ) (w : Walk) (d : Decoded) where
  pub answers : (s : Stand) (o k : ℕ) → s ≡ record { mode = d.next; tally = effect_on d.effect w.stand.tally v } → o ≡ length (rule_of d).sends → Counted t (rule_of d).sends k
      → Answered d t v w (record { stand = s; ordinal = w.ordinal + o; read = w.read + 1; sent = w.sent + k })
  unfolding read_by
  answers s o k es eo ek p =
      record {
        stand = es;
        ordinal = ap (λ (n : ℕ). w.ordinal + n) eo;
        read = refl;
        sent = ap (λ (n : ℕ). w.sent + n) (ek p w.ordinal _ v);
        near = λ i h. record {
          ordinal = omega (arith, h.ordinal, eo, rule_length d);
          read = omega (arith, h.read);
          sent = omega (arith, h.sent, counted_few t (rule_of d).sends k ek, rule_length d);
        };
      }

  pub answer_sends : (r : Walk) (p : ℕ) → Answered d t v w r → (read_by (some (rule_of d)) p t w.ordinal w.stand v).sends ≡ send_all p t w.ordinal r.stand.tally v (rule_of d).sends
  unfolding read_by
  answer_sends r p a = ap (λ (s : Stand). send_all p t w.ordinal s.tally v (rule_of d).sends) (sym (a p).stand)

-- ---- one row: "reading one message finds the rule for mode and kind"; a row with a count below 1 is passed over

read_one : (rs : List Rule) (p t o : ℕ) (s : Stand) (m : Message) → read_all rs p t o s (m ∷ []) ≡ read_by (find rs s.mode m.kind) p t o s m.value
unfolding read_all
read_one rs p t o s m = rw append-nil

module _ (rules : List (List ℕ)) (t : ℕ) (e : List ℕ) (w : Walk) where
  -- what the row does
  abbrev row : ℕ → Done
  row p = done_from rules p t w (read_of t e)

  -- f is found for the row's message
  abbrev Finds : Option Decoded → Type 0
  Finds f = f ≡ found_among rules w.stand.mode (message_of e).kind

  module _ (i : is_read t (entry_of e) ≡ true) where
    row_answered : (d : Decoded) (p : ℕ) → Finds (Some d) → row p ≡ read_by (some (rule_of d)) p t w.ordinal w.stand (message_of e).value
    row_answered d p f = rw (i, read_one (map rule_at rules) p t w.ordinal w.stand (message_of e), ← finds rules w.stand.mode (message_of e).kind, ← f)

    row_unanswered : (p : ℕ) → Finds None → row p ≡ nothing w
    unfolding read_by
    row_unanswered p f = rw (i, read_one (map rule_at rules) p t w.ordinal w.stand (message_of e), ← finds rules w.stand.mode (message_of e).kind, ← f)

    module _ (d : Decoded) (r : Walk) (f : Finds (Some d)) (a : Answered d t (message_of e).value w r) where
      pub read_answered : RowRead rules t e w r
      read_answered p = rw (row_answered d p f) (rw i (a p))

      pub sends_answered : RowSends rules t e w r (Some d)
      sends_answered p = rw (row_answered d p f) (answer_sends t (message_of e).value w d r p a)

    module _ (f : Finds None) where
      pub read_unanswered : (r : Walk) → r ≡ record w { read = w.read + 1 } → RowRead rules t e w r
      read_unanswered r k p = rw (row_unanswered p f) (rw i (still w r 1 (omega arith) (ap (λ (x : Walk). x.stand) k) (ap (λ (x : Walk). x.ordinal) k) (ap (λ (x : Walk). x.read) k) (ap (λ (x : Walk). x.sent) k)))

      pub sends_unanswered : (r : Walk) → RowSends rules t e w r None
      sends_unanswered r p = ap (λ (x : Done). x.sends) (row_unanswered p f)

  module _ (i : is_read t (entry_of e) ≡ false) where
    row_passed : (p : ℕ) → row p ≡ nothing w
    unfolding read_all
    row_passed p = rw i

    pub read_passed : RowRead rules t e w w
    read_passed p = rw (row_passed p) (rw i (still w w 0 (omega arith) refl refl (omega arith) refl))

    pub sends_passed : RowSends rules t e w w None
    sends_passed p = ap (λ (x : Done). x.sends) (row_passed p)
