-- What the reader writes: a model in the rows of crate `rule`. Words of a row that a rule does not need are 0; rows that a model does not need keep
-- their values.
use Rattle.std.specs.Prelude.{◌≡◌, Bool, true, cond, ◌&&◌, List, [], ◌∷◌, ℕ, suc, eqb, length, get_or, set, Result, Ok, Err}
use Rattle.std.proofs.Common.{ap, ap₂, arith}
use Rattle.definition.specs.declared.refusal.Refusal.{Refusal}
use Rattle.definition.specs.declared.refusal.Fault.{Fault as Refused_at}
use Rattle.definition.specs.Answer.{refusal_number, one_refusal, parsed}
use Rattle.definition.specs.Lists.{all}
use Rattle.definition.specs.Model.{Rule, Setup, Model}
use Rattle.definition.specs.ModelBytes.{Parsed, Got, Fault, mapped, model_in}
use Rattle.rule.specs.Rows.{encoded, model_of, lawful_model}
use Rattle.rulebytes.specs.Reading.{rowed}

-- ---- rows

-- each of a list put into its place, the first into place i
unfoldable pub puts : {A B : Type 0} → (ℕ → A → B → B) → ℕ → List A → B → B
puts put i [] rows = rows
puts put i (a ∷ l) rows = puts put (suc i) l (put i a rows)

-- rule i of a process has the row after the first row and i others
abbrev pub put_rule : ℕ → Rule → List (List ℕ) → List (List ℕ)
put_rule i r rows = set rows (suc i) (encoded (rowed r))

-- the first row of a process; the process count, n, stands in that of each
abbrev pub headed : ℕ → ℕ → ℕ → ℕ → List ℕ
headed rules mode tally n = rules ∷ mode ∷ tally ∷ n ∷ 0 ∷ 0 ∷ 0 ∷ 0 ∷ 0 ∷ 0 ∷ 0 ∷ 0 ∷ 0 ∷ 0 ∷ 0 ∷ 0 ∷ []

-- a process of n: its rules, and then its first row
abbrev pub put_setup : ℕ → Setup → List (List ℕ) → List (List ℕ)
put_setup n u rows = set (puts put_rule 0 u.rules rows) 0 (headed (length u.rules) u.first.mode u.first.tally n)

abbrev pub put_process : ℕ → ℕ → Setup → List (List (List ℕ)) → List (List (List ℕ))
put_process n p u m = set m p (put_setup n u (get_or m p []))

abbrev pub put_model : Model → List (List (List ℕ)) → List (List (List ℕ))
put_model M m = puts (put_process (length M)) 0 M m

-- ---- reading over rows: the answer is how many were read; the rows keep their number; what was read whole stands in them
pub record Reads {A B : Type 0} (size : A → ℕ) (put : A → List B → List B) (p : Parsed A) (before after : List B) (r : Result (ℕ × ℕ) Refused_at) : Type 0 where
  pub answer : parsed r ≡ mapped size p
  pub kept : length after ≡ length before
  pub stored : (a : A) (next : ℕ) → p ≡ Got a next → after ≡ put a before

-- ---- the promise

abbrev pub is_full : List (List ℕ) → Bool
is_full rows = eqb (length rows) 65

-- room for a model: eight processes of 65 rows each
unfoldable pub has_room : List (List (List ℕ)) → Bool
unfolding all
has_room m = all is_full m && eqb (length m) 8

-- 16 at 0 where there is no room; else the model that the bytes say, or its first fault
unfoldable pub model_for : List ℕ → List (List (List ℕ)) → Parsed Model
unfolding has_room model_in
model_for bs m = cond (has_room m) (model_in bs) (Fault 16 0)

-- the answer: how many processes, or the refusal's number and its offset
abbrev pub answered : Parsed Model → Result ℕ (ℕ × ℕ)
answered (Got M next) = Ok (length M)
answered (Fault n at) = Err (n, at)

-- what the code answers, so told
abbrev pub told : Result ℕ Refused_at → Result ℕ (ℕ × ℕ)
told (Ok count) = Ok count
told (Err f) = Err (refusal_number f.refusal, f.at)

-- an answer is settled by what is told of it
pub one_told : (r s : Result ℕ Refused_at) → told r ≡ told s → r ≡ s
one_told (Ok n) (Ok m) e = cc
one_told (Ok n) (Err g) e = let z : ◌≡◌ {A = ℕ} 0 1 = cc in absurd (omega arith)
one_told (Err f) (Ok m) e = let z : ◌≡◌ {A = ℕ} 0 1 = cc in absurd (omega arith)
one_told (Err f) (Err g) e =
    let same : ◌≡◌ {A = ℕ × ℕ} (refusal_number f.refusal, f.at) (refusal_number g.refusal, g.at) = cc in
    ap₂ (λ (r : Refusal) (at : ℕ). Err (record { refusal = r; at = at })) (one_refusal f.refusal g.refusal (ap (λ x. x.0) same)) (ap (λ x. x.1) same)

-- an accepted model stands in the rows; after a refusal they are as they were
abbrev pub rows_after : Parsed Model → List (List (List ℕ)) → List (List (List ℕ))
rows_after (Got M next) m = put_model M m
rows_after (Fault n at) m = m

pub record Promise (bs : List ℕ) (before after : List (List (List ℕ))) (r : Result ℕ (ℕ × ℕ)) : Type 0 where
  pub answer : r ≡ answered (model_for bs before)
  pub rows : after ≡ rows_after (model_for bs before) before
  pub holds : (M : Model) (next : ℕ) → model_for bs before ≡ Got M next → (model_of after ≡ M) × (lawful_model after ≡ true)
