-- What an event reads of a queue stands in its rows from the first that was not received before its time.
use Rattle.std.specs.Prelude.{ℕ, ◌≡◌, refl, Bool, true, false, cond, leb, List, [], ◌∷◌, map}
use Rattle.std.proofs.Common.{ap, sym, ◌∙◌, arith}
use borrow.Author.Tests.{ne_eqb, leb-false}
use Rattle.definition.specs.Lists.{keep}
use Rattle.definition.specs.State.{Entry, reads_at}
use Rattle.queue.specs.Rows.{entry_of}
use Rattle.queue.specs.Queues.{received_at, Parted, is_read, reads_from}

reads_cons : (t : ℕ) (e : Entry) (l : List Entry) → reads_at t (e ∷ l) ≡ cond (is_read t e) (e.message ∷ reads_at t l) (reads_at t l)
unfolding reads_at
reads_cons t e l = refl

-- an entry of another time is not read
other : (t : ℕ) (e : Entry) → (e.message.received ≡ t → ⊥) → is_read t e ≡ false
other t e h = rw (ne_eqb e.message.received t h)

reads_keep : (t : ℕ) (l : List Entry) → reads_at t (keep (λ (e : Entry). leb t e.message.received) l) ≡ reads_at t l
unfolding keep
reads_keep t [] = refl
reads_keep t (e ∷ l) = go (leb t e.message.received) refl (reads_keep t l)
  where
    go : (b : Bool) → leb t e.message.received ≡ b → reads_at t (keep (λ (e : Entry). leb t e.message.received) l) ≡ reads_at t l → reads_at t (cond b (e ∷ keep (λ (e : Entry). leb t e.message.received) l) (keep (λ (e : Entry). leb t e.message.received) l)) ≡ reads_at t (e ∷ l)
    go true k ih = reads_cons t e (keep (λ (e : Entry). leb t e.message.received) l) ∙ rw ih (sym (reads_cons t e l))
    go false k ih = ih ∙ sym (reads_cons t e l ∙ rw (other t e (λ z. omega (arith, leb-false t e.message.received k))))

-- the rows that were not received before it are all that it may read
module _ (t : ℕ) (q : List (List ℕ)) where
  pub reads_start : (i : ℕ) → Parted entry_of received_at q t i → reads_at t (map entry_of q) ≡ reads_from t q i
  reads_start i p = sym (ap (reads_at t) p.after ∙ reads_keep t (map entry_of q))
