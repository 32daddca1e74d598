-- A run's start: it is refused by 16 and nothing is written; or the model is accepted, and the calls after it are a rehearsal of this model.
use mathlib.Core.Path.{◌≡◌, refl, sym, ap, ◌∙◌, subst}
use mathlib.Core.Bool.{Bool, true, false, not, ◌&&◌}
use mathlib.Core.List.{List}
use Prim.Native.Nat.{ℕ}
use native.Mathlib.Omega.{arith}
use Rattle.std.specs.Prelude.{Ok}
use Rattle.definition.specs.declared.Answer.{Answer as Given}
use Rattle.definition.specs.declared.Answer.TheVariants.{Started as GivenStart, Injected as GivenInject, Delivered as GivenDeliver, Executed as GivenExecute, Advanced as GivenAdvance}
use Rattle.definition.specs.Answer.{Answer, Refused, Started, answer_of}
use Rattle.definition.specs.Model.{ok_model}
use Rattle.definition.specs.State.{State}
use Rattle.definition.specs.Calls.{check, done, started, start}
use Rattle.definition.specs.Rehearsal.{rehearsal}
use Rattle.demands.specs.Demands.{demand_two, demand_three}
use Rattle.rule.specs.Rows.{model_of, shaped_model}
use Rattle.memory.specs.Memory.{Memory, Rows, state_of}
use Rattle.memory.specs.Promise.{is_refusal, sized, due_start, Begun}
use Rattle.run.specs.Promise.{Ran}
use Rattle.run.specs.Promise.{Refused as RunRefused}
use Rattle.run.specs.Promise.{Works, Runs, calls_due}

-- ---- what is due of a start

never_both : {X : Type 0} {b : Bool} → b ≡ true → b ≡ false → X
never_both e f = let z : ◌≡◌ {A = ℕ} 0 1 = cc in absurd (omega arith)

module _ (m : Memory) where
  record Accepted : Type 0 where
    model : ok_model (model_of m.model) ≡ true
    first : (due_start m).after ≡ started (model_of m.model)

  accepted : is_refusal (due_start m).answer ≡ false → Accepted
  unfolding due_start start check
  accepted = go (shaped_model m.model && sized m) refl (ok_model (model_of m.model)) refl
    where
      go : (b : Bool) → shaped_model m.model && sized m ≡ b → (d : Bool) → ok_model (model_of m.model) ≡ d
          → is_refusal (check (not b) 16 (state_of m) (check (not d) 16 (state_of m) (done Started (started (model_of m.model))))).answer ≡ false → Accepted
      go false f d g e = never_both refl e
      go true f false g e = never_both refl e
      go true f true g e = record { model = g; first = rw (f, g) }

  -- a start that is refused is refused by 16
  refused_by : {n : ℕ} → (due_start m).answer ≡ Refused n → n ≡ 16
  unfolding due_start start check
  refused_by {n} = go (shaped_model m.model && sized m) (ok_model (model_of m.model))
    where
      go : (b d : Bool) → (check (not b) 16 (state_of m) (check (not d) 16 (state_of m) (done Started (started (model_of m.model))))).answer ≡ Refused n → n ≡ 16
      go false d e = cc
      go true false e = cc
      go true true e = let z : ◌≡◌ {A = ℕ} 0 1 = cc in absurd (omega arith)

-- what is not refused is no refusal
pub no_refusal : (g : Given) → is_refusal (answer_of (Ok g)) ≡ false
no_refusal GivenStart = refl
no_refusal GivenInject = refl
no_refusal (GivenDeliver undone cancelled) = refl
no_refusal (GivenExecute time read sent) = refl
no_refusal (GivenAdvance horizon entries bytes) = refl

-- ---- the run

module _ (bs : List ℕ) (m v : Memory) (a : Answer) (begun : Begun m a v) (answers : Rows) (committed : List ℕ) where
  pub run_refused : {n : ℕ} → a ≡ Refused n → Runs bs m (RunRefused n) v answers answers committed committed
  run_refused e =
      let is : is_refusal a ≡ true = ap is_refusal e in
      let due : is_refusal (due_start m).answer ≡ true = rw begun.answer at is in
      record {
        refused = λ _. record { answer = ap RunRefused (refused_by m (sym begun.answer ∙ e)); same = begun.same is; rows = refl; bytes = refl };
        rehearsed = λ f. never_both due f;
      }

  pub run_done : is_refusal a ≡ false → (r : Ran) (w : Memory) (answers' : Rows) (committed' : List ℕ)
      → Works bs (state_of v) r w answers answers' committed committed' → Runs bs m r w answers answers' committed committed'
  unfolding rehearsal
  run_done is r w answers' committed' h =
      let due : is_refusal (due_start m).answer ≡ false = rw begun.answer at is in
      let start = accepted m due in
      let first : state_of v ≡ started (model_of m.model) = begun.state ∙ start.first in
      record {
        refused = λ f. never_both f due;
        rehearsed = λ _. record {
          worked = subst (λ (s : State). Works bs s r w answers answers' committed committed') first h;
          demand_two = demand_two (model_of m.model) start.model (calls_due bs m answers committed).calls;
          demand_three = λ later. demand_three (model_of m.model) start.model (calls_due bs m answers committed).calls later;
        };
      }
