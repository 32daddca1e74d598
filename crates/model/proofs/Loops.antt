-- A loop that reads a list, one after another, and puts each into its place. `Going` says of a turn that i are done and what is left to read gives
-- the rest; it holds at the start, a turn keeps it, and it says what was read where a turn meets a fault and at the end.
use Rattle.std.specs.Prelude.{◌≡◌, List, [], ◌∷◌, ℕ, suc, ◌+◌, length, Ok}
use Rattle.std.proofs.Common.{refl, sym, ap, ◌∙◌, arith}
use Rattle.definition.specs.ModelBytes.{Parsed, Got, Fault, and_then, mapped}
use Rattle.field.specs.Gives.{no_fault}
use Rattle.model.specs.Stored.{puts, Reads}
use Rattle.model.proofs.Steps.{made_fault}

pub record Going {A B : Type 0} (put : ℕ → A → List B → List B) (p : Parsed (List A)) (before : List B) (i : ℕ) (here : Parsed (List A)) (rows : List B) : Type 0 where
  pub answer : mapped length p ≡ mapped (λ l. i + length l) here
  pub kept : length rows ≡ length before
  pub stored : (l : List A) (next : ℕ) → p ≡ Got l next → (left : List A) × (here ≡ Got left next) × (puts put 0 l before ≡ puts put i left rows)

pub start : {A B : Type 0} {put : ℕ → A → List B → List B} {p : Parsed (List A)} {before : List B} → Going put p before 0 p before
start {A = A} {p = p} = record { answer = go p; kept = refl; stored = λ l next e. (l, e, refl) }
  where
    go : (q : Parsed (List A)) → mapped length q ≡ mapped (λ l. 0 + length l) q
    go (Got l next) = ap (λ (n : ℕ). Got n next) (omega arith)
    go (Fault n at) = refl

module _ {A B : Type 0} {put : ℕ → A → List B → List B} {p : Parsed (List A)} {before : List B} {i : ℕ} {here : Parsed (List A)} {rows : List B}
    (g : Going put p before i here rows) where
  pub turn : (q : Parsed A) (f : A → ℕ → Parsed (List A)) (a : A) (next : ℕ) (after : List B)
      → here ≡ and_then q (λ b n. mapped (λ (l : List A). b ∷ l) (f b n)) → q ≡ Got a next → after ≡ put i a rows → length after ≡ length rows
      → Going put p before (suc i) (f a next) after
  unfolding puts
  turn q f a next after e k s t = go (f a next) (e ∙ rw k)
    where
      go : (r : Parsed (List A)) → here ≡ mapped (λ (l : List A). a ∷ l) r → Going put p before (suc i) r after
      go (Got l n) h = record {
        answer = g.answer ∙ rw h (ap (λ (x : ℕ). Got x n) (omega arith));
        kept = t ∙ g.kept;
        stored = λ m o d. let w = g.stored m o d in let y : Got w.0 o ≡ Got (a ∷ l) n = sym w.1 ∙ h in
            (l, (cc), w.2 ∙ (let z : w.0 ≡ a ∷ l = cc in rw (z, s)));
      }
      go (Fault n at) h = record { answer = g.answer ∙ rw h; kept = t ∙ g.kept; stored = λ m o d. no_fault (sym h ∙ (g.stored m o d).1) }

  pub stopped : {n at : ℕ} → here ≡ Fault n at → p ≡ Fault n at
  stopped e = made_fault length p (g.answer ∙ rw e)

  pub ended : {next : ℕ} → here ≡ Got [] next → Reads length (puts put 0) p before rows (Ok (i, next))
  unfolding puts
  ended {next} e =
      record {
        answer = sym (g.answer ∙ rw e (ap (λ (x : ℕ). Got x next) (omega arith)));
        kept = g.kept;
        stored = λ m o d. let w = g.stored m o d in let y : Got w.0 o ≡ Got [] next = sym w.1 ∙ e in
            let z : w.0 ≡ [] = cc in sym (w.2 ∙ rw z);
      }
