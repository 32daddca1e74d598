-- The host's step over a model in rows: its refusal, where it leaves a process, its answer. The laws below say it case by case, and that a mode or
-- a kind over 7 changes nothing.
use Rattle.std.specs.Prelude.{◌≡◌, refl, Bool, true, false, cond, List, ℕ, zero, suc, ◌≤◌, ◌<◌, eqb, Result, Ok, Err}
use Rattle.std.proofs.Common.{ap}
use Rattle.std.proofs.Math.Option.{none}
use native.Mathlib.Omega.{arith}
use Rattle.std.proofs.Math.ListN.{length}
use borrow.Author.Tests.{le-leb, lt-leb}
use Rattle.definition.specs.declared.Stand.{Stand}
use Rattle.definition.specs.Model.{setup, find}
use Rattle.definition.specs.Host.{step_refused, stepped}
use Rattle.rule.specs.Rows.{processes_of, model_of, lawful_model, stand_after}
use Rattle.rule.specs.Laws.{Lawful, lawful_model_lem, stands, no_mode, no_kind}
use Rattle.definition.specs.declared.refusal.Refusal.{Refusal}
use Rattle.definition.specs.Answer.{refusal_number, one_refusal}

-- what a step answers, a refusal by its number; and where it leaves a process
pub data Stepped : Type 0 where
  Done : Stepped
  Refused : ℕ → Stepped

pub record Outcome : Type 0 where
  pub stand : Stand
  pub answer : Stepped

abbrev pub stepped_of : {A : Type 0} → Result A Refusal → Stepped
stepped_of (Ok x) = Done
stepped_of (Err r) = Refused (refusal_number r)

-- of a process that stands at s: a refusal leaves it there
abbrev pub left_at : Stand → Result Stand Refusal → Stand
left_at s (Ok t) = t
left_at s (Err r) = s

abbrev pub told : Stand → Result Stand Refusal → Outcome
told s r = record { stand = left_at s r; answer = stepped_of r }

-- what is told of an answer settles it
pub one_step : (r s : Result (Unit {0}) Refusal) → stepped_of r ≡ stepped_of s → r ≡ s
one_step (Ok x) (Ok y) e = refl
one_step (Ok x) (Err s) e = let z : ◌≡◌ {A = ℕ} 0 1 = cc in absurd (omega arith)
one_step (Err r) (Ok y) e = let z : ◌≡◌ {A = ℕ} 0 1 = cc in absurd (omega arith)
one_step (Err r) (Err s) e = let same : refusal_number r ≡ refusal_number s = cc in ap Err (one_refusal r s same)

pub one_outcome : (s : Stand) (r q : Result Stand Refusal) → told s r ≡ told s q → r ≡ q
one_outcome s (Ok t) (Ok u) e = ap (λ (o : Outcome). Ok o.stand) e
one_outcome s (Ok t) (Err q) e = let f = ap (λ (o : Outcome). o.answer) e in let z : ◌≡◌ {A = ℕ} 0 1 = cc in absurd (omega arith)
one_outcome s (Err r) (Ok u) e = let f = ap (λ (o : Outcome). o.answer) e in let z : ◌≡◌ {A = ℕ} 0 1 = cc in absurd (omega arith)
one_outcome s (Err r) (Err q) e =
    let f = ap (λ (o : Outcome). o.answer) e in let same : refusal_number r ≡ refusal_number q = cc in ap Err (one_refusal r q same)

-- document 01's number for each answer: 0 refuses nothing
abbrev pub answered : ℕ → Stepped
answered zero = Done
answered (suc n) = Refused (suc n)

-- "The step refuses a bad model by 16, then a process not in it by 1": rows that hold no accepted model are a bad one
abbrev pub refusal : List (List (List ℕ)) → ℕ → ℕ
refusal m p = cond (lawful_model m) (step_refused (model_of m) p) 16

-- where the step leaves a process that stands at s: a refusal leaves it there
abbrev pub standing : List (List (List ℕ)) → ℕ → Stand → ℕ → ℕ → Stand
standing m p s kind v = cond (eqb (refusal m p) 0) (stepped (model_of m) p s kind v) s

abbrev pub outcome : List (List (List ℕ)) → ℕ → Stand → ℕ → ℕ → Outcome
outcome m p s kind v = record { stand = standing m p s kind v; answer = answered (refusal m p) }

either : {A : Type 0} (b : Bool) (x : A) → cond b x x ≡ x
either true x = refl
either false x = refl

module _ (m : List (List (List ℕ))) (p : ℕ) (s : Stand) (kind v : ℕ) where
  pub bad_model : lawful_model m ≡ false → outcome m p s kind v ≡ record { stand = s; answer = Refused 16 }
  bad_model e = rw e

  module _ (e : lawful_model m ≡ true) where
    pub not_there : processes_of m ≤ p → outcome m p s kind v ≡ record { stand = s; answer = Refused 1 }
    unfolding step_refused
    not_there h =
        let l : Lawful m = lawful_model_lem m e in
        let past : length (model_of m) ≤ p = omega arith in
        rw (e, l.ok, le-leb (length (model_of m)) p past)

    pub there : p < processes_of m → (s' : Stand) → s' ≡ stand_after (find (setup (model_of m) p).rules s.mode kind) s v → outcome m p s kind v ≡ record { stand = s'; answer = Done }
    unfolding step_refused stepped
    there h s' is =
        let l : Lawful m = lawful_model_lem m e in
        let within : p < length (model_of m) = omega arith in
        rw (is, e, l.ok, lt-leb (length (model_of m)) p within, stands (find (setup (model_of m) p).rules s.mode kind) p 0 0 s v)

  -- "a mode or kind over 7 finds no rule", and then nothing changes
  no_rule : find (setup (model_of m) p).rules s.mode kind ≡ none → standing m p s kind v ≡ s
  unfolding stepped
  no_rule e = rw (stands (find (setup (model_of m) p).rules s.mode kind) p 0 0 s v, e) (either (eqb (refusal m p) 0) s)

  -- where the model is refused, nothing changes either
  unless_bad : (lawful_model m ≡ true → standing m p s kind v ≡ s) → standing m p s kind v ≡ s
  unless_bad h = by_test (lawful_model m) refl
    where
      by_test : (b : Bool) → lawful_model m ≡ b → standing m p s kind v ≡ s
      by_test true e = h e
      by_test false e = rw e

  pub mode_over : 7 < s.mode → standing m p s kind v ≡ s
  mode_over h = unless_bad (λ e. no_rule (no_mode (model_of m) (lawful_model_lem m e).ok p s.mode kind h))

  pub kind_over : 7 < kind → standing m p s kind v ≡ s
  kind_over h = unless_bad (λ e. no_rule (no_kind (model_of m) (lawful_model_lem m e).ok p s.mode kind h))
