-- A walk over the rows that an event reads. It holds that what was done, with what is left from how far it has come, is what the whole event does.
use Rattle.std.specs.Prelude.{ℕ, suc, ◌≡◌, refl, Bool, true, false, cond, List, [], ◌∷◌, ◌++◌, ◌+◌, ◌≤◌, ◌<◌, eqb, map, length, get_or, drop}
use Rattle.std.proofs.Common.{ap, ap₂, sym, ◌∙◌, subst, arith, zero-le, suc-le-suc, append_assoc, append-nil, length-append, length-drop, get_or-drop}
use Rattle.std.proofs.Math.ListN.{get_or-map}
use Rattle.std.proofs.lemmas.List.{drop_more, drop_all, length-map}
use borrow.Author.Tests.{ne_eqb}
use Rattle.definition.specs.declared.Stand.{Stand}
use Rattle.definition.specs.Lists.{in_order}
use Rattle.definition.specs.Message.{Message}
use Rattle.definition.specs.Model.{Rule, Done, find, read_by, read_all}
use Rattle.definition.specs.State.{Entry, entry_key, reads_at}
use Rattle.laws.specs.Rising.{in_order_rises}
use Rattle.queue.specs.Rows.{message_of, entry_of}
use Rattle.queue.specs.Queues.{is_read, reads_from}
use Rattle.rule.specs.Rows.{rule_at}
use Rattle.event.specs.declared.Outbox.{Outbox}
use Rattle.event.specs.declared.Walk.{Walk}
use Rattle.event.specs.Event.{RoomFor, Joined, Within, Moved, start_at, read_of, done_from, event_of, Outcome}
use Rattle.event.proofs.Sending.{nothing}
use Rattle.event.proofs.Joining.{joined_none, joined_then}

-- ---- some messages and then others

abbrev and_then : Done → Done → Done
and_then a b = record { stand = b.stand; sends = a.sends ++ b.sends; ordinal = b.ordinal }

read_append : (rs : List Rule) (p t o : ℕ) (s : Stand) (ms ns : List Message)
    → read_all rs p t o s (ms ++ ns) ≡ and_then (read_all rs p t o s ms) (read_all rs p t (read_all rs p t o s ms).ordinal (read_all rs p t o s ms).stand ns)
unfolding read_all
read_append rs p t o s [] ns = refl
read_append rs p t o s (m ∷ ms) ns =
    let one : Done = read_by (find rs s.mode m.kind) p t o s m.value in
    ap (and_then one) (read_append rs p t one.ordinal one.stand ms ns) ∙ rw append_assoc

-- ---- what an event reads of the rows, from row i on

module _ (t : ℕ) where
  reads_cons : (e : List ℕ) (rows : List (List ℕ)) → reads_at t (map entry_of (e ∷ rows)) ≡ read_of t e ++ reads_at t (map entry_of rows)
  unfolding reads_at
  reads_cons e rows = go (is_read t (entry_of e))
    where
      rest : List Message
      rest = reads_at t (map entry_of rows)

      go : (b : Bool) → cond b (message_of e ∷ rest) rest ≡ cond b (message_of e ∷ []) [] ++ rest
      go true = refl
      go false = refl

  reads_none : reads_at t [] ≡ []
  unfolding reads_at
  reads_none = refl

  pub reads_end : (rows : List (List ℕ)) (i : ℕ) → length rows ≤ i → reads_from t rows i ≡ []
  reads_end rows i h = ap (λ (l : List (List ℕ)). reads_at t (map entry_of l)) (drop_all i rows h) ∙ reads_none

  -- nothing of rows that are received later
  reads_later : (rows : List (List ℕ)) → ((k : ℕ) → k < length rows → t < get_or (get_or rows k []) 0 0) → reads_at t (map entry_of rows) ≡ []
  reads_later [] f = reads_none
  reads_later (e ∷ rows) f =
      let later : t < get_or e 0 0 = f 0 (suc-le-suc zero-le) in
      let passed : eqb (get_or e 0 0) t ≡ false = ne_eqb (get_or e 0 0) t (λ h. omega arith) in
      reads_cons e rows ∙ rw passed (reads_later rows (λ k h. f (suc k) (suc-le-suc h)))

  module _ (rows : List (List ℕ)) (i : ℕ) (h : i < length rows) where
    reads_row : reads_from t rows i ≡ read_of t (get_or rows i []) ++ reads_from t rows (i + 1)
    reads_row = rw (drop_more rows i [] h) (reads_cons (get_or rows i []) (drop (i + 1) rows))

    -- a row that is received later ends it
    pub reads_stop : in_order entry_key (map entry_of rows) ≡ true → t < get_or (get_or rows i []) 0 0 → reads_from t rows i ≡ []
    reads_stop asc l = reads_later (drop i rows) (λ k p.
        let b : i + k < length rows = omega (arith, length-drop i rows) in
        rw (get_or-drop i rows k []) (omega (arith, rises (i + k) (omega arith) b)))
      where
        rises : (k : ℕ) → i ≤ k → k < length rows → get_or (get_or rows i []) 0 0 ≤ get_or (get_or rows k []) 0 0
        rises k a b =
            rw (get_or-map entry_of rows i [], get_or-map entry_of rows k []) at
            (in_order_rises (λ (e : Entry). e.message.received) (entry_of []) (λ (e : Entry). e.message.sent ∷ e.message.sender ∷ e.message.ordinal ∷ e.message.kind ∷ e.message.value ∷ e.message.receiver ∷ []) (map entry_of rows) asc i k a (rw (length-map rows entry_of) b))

-- ---- what is done and what is left

module _ (rules rows : List (List ℕ)) (p t : ℕ) (s : Stand) where
  abbrev whole : Done
  whole = event_of rules rows p t s

  -- what is left from row i on, and what row i does
  abbrev rest_from : ℕ → Walk → Done
  rest_from i w = done_from rules p t w (reads_from t rows i)

  abbrev row_at : ℕ → Walk → Done
  row_at i w = done_from rules p t w (read_of t (get_or rows i []))

  -- what is left leads from w to where the event leads
  pub record Left (i : ℕ) (w : Walk) : Type 0 where
    pub stand : (rest_from i w).stand ≡ whole.stand
    pub read : w.read + length (reads_from t rows i) ≡ length (reads_at t (map entry_of rows))
    pub sent : w.sent + length (rest_from i w).sends ≡ length whole.sends

  -- what was sent has joined the outbox; with what is left to send it is what the event sends
  pub record Leaving (i : ℕ) (w : Walk) (o r : Outbox) : Type 0 where
    pub sends : List Message
    pub joined : Joined sends o r
    pub all : sends ++ (rest_from i w).sends ≡ whole.sends

  pub left_start : Left 0 (start_at s)
  left_start = record { stand = refl; read = omega arith; sent = omega arith }

  pub leaving_start : (o : Outbox) → Leaving 0 (start_at s) o o
  leaving_start o = record { sends = []; joined = joined_none o; all = refl }

  -- one row more
  module _ (i : ℕ) (h : i < length rows) (w : Walk) where
    row_rest : rest_from i w ≡ and_then (row_at i w) (read_all (map rule_at rules) p t (row_at i w).ordinal (row_at i w).stand (reads_from t rows (i + 1)))
    row_rest = ap (read_all (map rule_at rules) p t w.ordinal w.stand) (reads_row t rows i h) ∙ read_append (map rule_at rules) p t w.ordinal w.stand (read_of t (get_or rows i [])) (reads_from t rows (i + 1))

    -- where there was room for all that the event sends, there is room for what the row sends
    pub row_room : (o r : Outbox) → Leaving i w o r → RoomFor whole.sends o → RoomFor (row_at i w).sends r
    row_room o r e room =
        let rest : length (rest_from i w).sends ≡ length (row_at i w).sends + _ = ap (λ (d : Done). length d.sends) row_rest ∙ length-append (row_at i w).sends _ in
        let all : length e.sends + length (rest_from i w).sends ≡ length whole.sends = sym (length-append e.sends (rest_from i w).sends) ∙ ap length e.all in
        (omega (arith, room.0, e.joined.mails, e.joined.transit), omega (arith, room.1, e.joined.sends, e.joined.output))

    module _ (r : Walk) (moved : Moved (length (read_of t (get_or rows i []))) (row_at i w) w r) where
      row_then : rest_from i w ≡ and_then (row_at i w) (rest_from (i + 1) r)
      row_then = row_rest ∙ ap₂ (λ (o : ℕ) (x : Stand). and_then (row_at i w) (read_all (map rule_at rules) p t o x (reads_from t rows (i + 1)))) (sym moved.ordinal) (sym moved.stand)

      pub left_step : Left i w → Left (i + 1) r
      left_step a =
          record {
            stand = sym (ap (λ (d : Done). d.stand) row_then) ∙ a.stand;
            read = omega (arith, a.read, moved.read, ap length (reads_row t rows i h) ∙ length-append (read_of t (get_or rows i [])) (reads_from t rows (i + 1)));
            sent = omega (arith, a.sent, moved.sent, ap (λ (d : Done). length d.sends) row_then ∙ length-append (row_at i w).sends (rest_from (i + 1) r).sends);
          }

      pub leaving_step : (o b b' : Outbox) → Joined (row_at i w).sends b b' → Leaving i w o b → Leaving (i + 1) r o b'
      leaving_step o b b' j e =
          record {
            sends = e.sends ++ (row_at i w).sends;
            joined = joined_then e.joined j;
            all = append_assoc e.sends (row_at i w).sends (rest_from (i + 1) r).sends ∙ ap (λ (d : Done). e.sends ++ d.sends) (sym row_then) ∙ e.all;
          }

  -- nothing is left
  module _ (i : ℕ) (w : Walk) (none : reads_from t rows i ≡ []) where
    rest_none : rest_from i w ≡ nothing w
    unfolding read_all
    rest_none = ap (read_all (map rule_at rules) p t w.ordinal w.stand) none

    pub left_end : Within 64 w → Left i w → Outcome (length (reads_at t (map entry_of rows))) whole w
    left_end f a =
        record {
          stand = sym (ap (λ (d : Done). d.stand) rest_none) ∙ a.stand;
          read = omega (arith, a.read, ap length none);
          sent = omega (arith, a.sent, ap (λ (d : Done). length d.sends) rest_none);
          within = f;
        }

    pub leaving_end : (o r : Outbox) → Leaving i w o r → Joined whole.sends o r
    leaving_end o r e = subst (λ (u : List Message). Joined u o r) (sym (append-nil e.sends) ∙ ap (λ (d : Done). e.sends ++ d.sends) (sym rest_none) ∙ e.all) e.joined
