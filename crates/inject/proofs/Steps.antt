-- Inject over a lawful memory: its tests as one number, what is known where that number is 0, and the memory after it.
use mathlib.Core.Path.{◌≡◌, refl, sym, ap, ◌∙◌}
use mathlib.Core.Bool.{Bool, true, false, cond, not, ◌||◌}
use mathlib.Core.List.{List, [], ◌∷◌, ◌++◌}
use Prim.Native.Nat.{ℕ, zero, suc, ◌+◌, ◌≤◌}
use native.Mathlib.Omega.{arith}
use native.Mathlib.Numerals.{add-one}
use lib.Dec.{leb, ltb, eqb}
use lib.ListN.{length, get_or, set, length-set}
use lib.Seq.{get_or-set_same}
use borrow.Author.Tests.{ltb-false, leb-true, not-false}
use Rattle.definition.specs.declared.refusal.Refusal.{Refusal}
use Rattle.definition.specs.Answer.{refusal_number, refusal_not_0, Refused, Injected}
use Rattle.definition.specs.declared.Call.{Call}
use Rattle.definition.specs.declared.Call.TheVariants.{Inject}
use Rattle.definition.specs.Message.{Message, never, request}
use Rattle.definition.specs.Model.{word}
use Rattle.definition.specs.State.{State, plus}
use Rattle.definition.specs.Calls.{Result, refuse, done, check, injected, inject}
use Rattle.definition.specs.BadState.{bad, call}
use Rattle.lawful.specs.Kept.{kept}
use Rattle.laws.specs.Tests.{or_false}
use Rattle.queue.specs.Rows.{message_of, mails}
use Rattle.rule.specs.Rows.{processes_of}
use Rattle.memory.specs.Memory.{Memory, state_of, lawful, number, whole}
use Rattle.memory.specs.Promise.{Kept}
use Rattle.memory.specs.Laws.{Shape, lawful_shape, lawful_sane, shape_shaped, shape_lawful, model_count, mail_count, same_state, with_whole, whole_state, whole_shape}
use Rattle.memory.specs.Keeping.{check_no, kept_refused, kept_done}
use Rattle.inject.specs.Request.{bad_argument, refusal, with_request}

-- ---- the tests

-- refused by this number, or, where it is 0, the result
abbrev by_number : ℕ → State → Result → Result
by_number zero s r = r
by_number (suc n) s r = refuse (suc n) s

tests : (a b c d e : Bool) (s : State) (r : Result)
    → check a 1 s (check b 2 s (check c 3 s (check d 4 s (check e 7 s r)))) ≡ by_number (cond a 1 (cond b 2 (cond c 3 (cond d 4 (cond e 7 0))))) s r
unfolding check
tests true b c d e s r = refl
tests false true c d e s r = refl
tests false false true d e s r = refl
tests false false false true e s r = refl
tests false false false false true s r = refl
tests false false false false false s r = refl

passed_by : (b : Bool) (j x : ℕ) → cond b (suc j) x ≡ 0 → (b ≡ false) × (x ≡ 0)
passed_by true j x e = absurd (omega arith)
passed_by false j x e = (refl, e)

module _ (m : Memory) (l : lawful m ≡ true) (n p t k v : ℕ) where
  abbrev s : State
  s = state_of m

  abbrev asked : Call
  asked = Inject n p t k v

  abbrev no : ℕ
  no = refusal (get_or (whole m) 0 []) (processes_of m.model) n p t k

  abbrev accepted : Result
  accepted = done Injected (injected s (request n p t k v))

  call_is : call s asked ≡ by_number no s accepted
  unfolding call inject state_of
  call_is =
      let h = lawful_shape m l in
      check_no (bad s) 16 s (inject s n p t k v) (lawful_sane m l)
      ∙ rw (model_count m h, mail_count m h)
      (tests (bad_argument (processes_of m.model) n p t k) (ltb n (number (whole m) 2)) (ltb (number (whole m) 2) n) (ltb t (number (whole m) 1)) (not (leb (number (whole m) 0) 127)) s accepted)

  pub refused : (r : Refusal) → refusal_number r ≡ no → Kept m asked (Refused (refusal_number r)) m
  refused r e = go (refusal_number r) e (refusal_not_0 r)
    where
      go : (x : ℕ) → x ≡ no → (x ≡ 0 → ⊥) → Kept m asked (Refused x) m
      go zero e h = absurd (h refl)
      go (suc x) e h = kept_refused m asked (suc x) (shape_shaped m (lawful_shape m l)) (ap (λ (r : Result). r.answer) (call_is ∙ ap (λ (z : ℕ). by_number z s accepted) (sym e)))

  -- ---- a request that is not refused

  pub record Fine : Type 0 where
    pub number_room : n ≤ 999_999_999
    pub next : n ≡ number (whole m) 2
    pub mail_room : number (whole m) 0 ≤ 127

  pub fine : 0 ≡ no → Fine
  fine e =
      let a = passed_by (bad_argument (processes_of m.model) n p t k) 0 _ (sym e) in
      let b = passed_by (ltb n (number (whole m) 2)) 1 _ a.1 in
      let c = passed_by (ltb (number (whole m) 2) n) 2 _ b.1 in
      let d = passed_by (ltb t (number (whole m) 1)) 3 _ c.1 in
      let f = passed_by (not (leb (number (whole m) 0) 127)) 6 0 d.1 in
      let g = or_false (leb (processes_of m.model) p) (ltb 7 k || (eqb t 0 || (leb never t || ltb 999_999_999 n))) a.0 in
      let i = or_false (ltb 7 k) (eqb t 0 || (leb never t || ltb 999_999_999 n)) g.1 in
      let j = or_false (eqb t 0) (leb never t || ltb 999_999_999 n) i.1 in
      record {
        number_room = ltb-false 999_999_999 n (or_false (leb never t) (ltb 999_999_999 n) j.1).1;
        next = omega (arith, ltb-false n (number (whole m) 2) b.0, ltb-false (number (whole m) 2) n c.0);
        mail_room = leb-true (number (whole m) 0) 127 (not-false _ f.0);
      }

  -- ---- the memory after

  -- row is the request's, c the rows that were in transit
  module _ (e : 0 ≡ no) (w : word v ≡ true) (row : List ℕ) (is : message_of row ≡ request n p t k v) (c : ℕ) (count : c ≡ number (whole m) 0)
      (transit : List (List ℕ)) (long : length transit ≡ length m.transit) (joined : mails transit (c + 1) ≡ mails m.transit c ++ (plus (message_of row) ∷ [])) where
    abbrev top : List ℕ
    top = with_request (get_or (whole m) 0 []) n

    abbrev after : Memory
    after = with_whole m transit (set (whole m) 0 top)

    first : get_or (set (whole m) 0 top) 0 [] ≡ top
    first = get_or-set_same (whole m) 0 top [] (omega (arith, (lawful_shape m l).numbers))

    state_after : injected s (request n p t k v) ≡ state_of after
    unfolding state_of
    state_after =
        let f = fine e in
        sym (whole_state m (lawful_shape m l) transit (set (whole m) 0 top)
        ∙ same_state refl refl
        (ap (λ (r : List ℕ). mails transit (get_or r 0 0)) first ∙ (rw count at joined) ∙ ap (λ (a : Message). mails m.transit (number (whole m) 0) ++ (plus a ∷ [])) is)
        (ap (λ (r : List ℕ). get_or r 1 0) first)
        (ap (λ (r : List ℕ). get_or r 2 0) first ∙ add-one n ∙ ap suc f.next)
        (ap (λ (r : List ℕ). get_or r 3 0) first))

    shape_after : Shape after
    shape_after =
        let f = fine e in
        whole_shape m (lawful_shape m l) transit (set (whole m) 0 top) (long ∙ (lawful_shape m l).transit) (length-set (whole m) 0 top ∙ (lawful_shape m l).numbers) (rw first (omega (arith, f.mail_room)))

    result : call s asked ≡ done Injected (state_of after)
    result = call_is ∙ ap (λ (z : ℕ). by_number z s accepted) (sym e) ∙ ap (done Injected) state_after

    pub made : Kept m asked Injected after
    made = kept_done m asked after Injected [] [] (shape_shaped m (lawful_shape m l)) refl result
        (shape_lawful after shape_after (ap (λ (r : Result). bad r.after) (sym result) ∙ kept s (lawful_sane m l) asked w))
