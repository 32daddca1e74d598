-- What the two readings of a model leave, and the room for one.
use Rattle.std.specs.Prelude.{◌≡◌, true, List, [], ◌∷◌, ℕ, suc, ◌≤◌, ◌<◌, get_or, length, Ok}
use Rattle.std.proofs.Common.{refl, sym, ◌∙◌, arith, eq-eqb, le-ltb}
use Rattle.definition.specs.Lists.{all}
use Rattle.definition.specs.Model.{Model}
use Rattle.definition.specs.ModelBytes.{Parsed, Got, and_then, whole, model_in}
use Rattle.model.specs.Accepted.{accepted}
use Rattle.model.specs.Held.{held}
use Rattle.model.specs.Stored.{puts, put_process, put_model, Reads, is_full, has_room, model_for, told, Promise}
use Rattle.model.proofs.Steps.{made}

-- rows that are all of their length are full
pub all_full : (m : List (List (List ℕ))) → ((i : ℕ) → i < length m → length (get_or m i []) ≡ 65) → all is_full m ≡ true
unfolding all
all_full [] f = refl
all_full (x ∷ m) f = rw (eq-eqb (length x) 65 (f 0 (omega arith))) (all_full m (λ i h. f (suc i) (omega arith)))

-- the processes are the whole model, n as it says
pub model_stored : (bs : List ℕ) (n : ℕ) {p q : Parsed Model} {before after : List (List (List ℕ))} {v end : ℕ} → Reads length (puts (put_process n) 0) q before after (Ok (v, end))
    → length bs ≤ end → ((M : Model) → q ≡ Got M end → length M ≡ n) → p ≡ and_then q (whole bs) → Reads length put_model p before after (Ok (v, end))
model_stored bs n {p} {q} {before} {after} {v} {end} g h count follows = go (made length q (sym g.answer))
  where
    go : (M : Model) × (q ≡ Got M end) × (length M ≡ v) → Reads length put_model p before after (Ok (v, end))
    go (M, d, l) =
        let all : p ≡ Got M end = follows ∙ rw (d, le-ltb end (length bs) h) in
        record {
          answer = sym (rw (all, l));
          kept = g.kept;
          stored = λ N o k. let same : N ≡ M = cc in rw (same, count M d) (g.stored M end d);
        }

-- the model that stands in the rows is the one that the bytes say
pub promised : {bs : List ℕ} {m after : List (List (List ℕ))} {v next : ℕ} → has_room m ≡ true → Reads length put_model (model_in bs) m after (Ok (v, next))
    → Promise bs m after (told (Ok v))
unfolding model_for
promised {bs} {m} {after} {v} {next} room g = go (made length (model_in bs) (sym g.answer))
  where
    go : (M : Model) × (model_in bs ≡ Got M next) × (length M ≡ v) → Promise bs m after (told (Ok v))
    go (M, d, l) =
        let e : model_for bs m ≡ Got M next = rw (room, d) in
        let s = g.stored M next d in
        record {
          answer = sym (rw (e, l));
          rows = s ∙ sym (rw e);
          holds = λ N o k. let same : N ≡ M = cc in rw (same, s) (held M m room (accepted bs M next d).0);
        }
