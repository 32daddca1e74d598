-- How a call's promise is kept: by a refusal that writes nothing, or by the work.
use Rattle.std.specs.Prelude.{◌≡◌, Bool, ◌||◌, List, ℕ}
use Rattle.std.proofs.Math.Path.{refl, sym}
use Rattle.std.proofs.Common.{ap, ◌∙◌, arith}
use Rattle.std.proofs.Math.Bool.{true, false, not}
use Rattle.definition.specs.Answer.{Answer, Refused}
use Rattle.definition.specs.declared.Call.{Call}
use Rattle.definition.specs.declared.Call.TheVariants.{Inject, Deliver, Execute, Advance}
use Rattle.definition.specs.State.{State}
use Rattle.definition.specs.declared.Event.{Event}
use Rattle.definition.specs.Calls.{Result, refuse, check, inject, deliver, execute, advance}
use Rattle.definition.specs.BadState.{bad, passes, call}
use Rattle.memory.specs.Memory.{Memory, state_of, shaped, lawful}
use Rattle.memory.specs.Promise.{is_refusal, due, Kept}

pub check_yes : (b : Bool) (n : ℕ) (s : State) (r : Result) → b ≡ true → check b n s r ≡ refuse n s
unfolding check
check_yes b n s r e = rw e

pub check_no : (b : Bool) (n : ℕ) (s : State) (r : Result) → b ≡ false → check b n s r ≡ r
unfolding check
check_no b n s r e = rw e

-- what is refused is not done
not_refused : {X : Type 0} → false ≡ true → X
not_refused e = let z : ◌≡◌ {A = ℕ} 0 1 = cc in absurd (omega arith)

-- a refusal of the definition leaves the state
module _ (s : State) where
  Same : Result → Type 0
  Same r = is_refusal r.answer ≡ true → r.after ≡ s

  -- a test more before what leaves the state
  test : (b : Bool) (n : ℕ) (r : Result) → Same r → Same (check b n s r)
  unfolding Same check
  test true n r h e = refl
  test false n r h e = h e

  refusal_same : (c : Call) → is_refusal (call s c).answer ≡ true → (call s c).after ≡ s
  unfolding Same call inject deliver execute advance
  refusal_same (Inject n p t k v) = test _ 16 _ (test _ 1 _ (test _ 2 _ (test _ 3 _ (test _ 4 _ (test _ 7 _ (λ e. not_refused e))))))
  refusal_same (Deliver i) = test _ 16 _ (test _ 5 _ (test _ 7 _ (λ e. not_refused e)))
  refusal_same (Execute p) = test _ 16 _ (test _ 1 _ (test _ 6 _ (test _ 7 _ (λ e. not_refused e))))
  refusal_same (Advance ceiling room) = test _ 16 _ (test _ 8 _ (λ e. not_refused e))

-- a bad state is refused by 16
bad_refused : (s : State) (c : Call) → bad s ≡ true → call s c ≡ refuse 16 s
unfolding call
bad_refused s (Inject n p t k v) e = check_yes (bad s) 16 s _ e
bad_refused s (Deliver i) e = check_yes (bad s || passes s i) 16 s _ (rw e)
bad_refused s (Execute p) e = check_yes (bad s) 16 s _ e
bad_refused s (Advance ceiling room) e = check_yes (bad s) 16 s _ e

module _ (m : Memory) (c : Call) where
  due_shaped : shaped m ≡ true → due m c ≡ call (state_of m) c
  unfolding due
  due_shaped h = check_no (not (shaped m)) 16 (state_of m) (call (state_of m) c) (ap not h)

  -- refused by a number of the definition: nothing is written
  pub kept_refused : (n : ℕ) → shaped m ≡ true → (call (state_of m) c).answer ≡ Refused n → Kept m c (Refused n) m
  kept_refused n h e =
      let d = due_shaped h in
      record { answer = rw d (sym e); state = rw d (sym (refusal_same (state_of m) c (rw e refl))); same = λ _. refl; lawful_again = λ l. l }

  -- done: w is the memory after it
  pub kept_done : (w : Memory) (a : Answer) (events : List Event) (bytes : List ℕ) → shaped m ≡ true → is_refusal a ≡ false
      → call (state_of m) c ≡ record { answer = a; events = events; bytes = bytes; after = state_of w } → lawful w ≡ true → Kept m c a w
  kept_done w a events bytes h f e l =
      let d = due_shaped h in
      record { answer = rw (d, e); state = rw (d, e); same = λ r. not_refused (sym f ∙ r); lawful_again = λ _. l }

  -- a memory that is not lawful is refused by 16
  pub kept_unlawful : lawful m ≡ false → Kept m c (Refused 16) m
  unfolding lawful due
  kept_unlawful l = go (shaped m) refl
    where
      sane : (b : Bool) → shaped m ≡ true → bad (state_of m) ≡ b → Kept m c (Refused 16) m
      sane true h e = kept_refused 16 h (ap (λ (r : Result). r.answer) (bad_refused (state_of m) c e))
      sane false h e = let z : true ≡ false = sym (rw (h, e)) ∙ l in not_refused (sym z)

      go : (b : Bool) → shaped m ≡ b → Kept m c (Refused 16) m
      go true h = sane (bad (state_of m)) h refl
      go false h =
          let d : due m c ≡ refuse 16 (state_of m) = check_yes (not (shaped m)) 16 (state_of m) (call (state_of m) c) (ap not h) in
          record { answer = rw d; state = rw d; same = λ _. refl; lawful_again = λ k. k }
