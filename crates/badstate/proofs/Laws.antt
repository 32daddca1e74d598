-- What the tests of a memory's parts say of the whole.
use mathlib.Core.Path.{◌≡◌, refl, sym, ap, ◌∙◌}
use mathlib.Core.Bool.{Bool, true, false, not, ◌&&◌}
use mathlib.Core.List.{List}
use Prim.Native.Nat.{ℕ, zero, suc, ◌≤◌, ◌<◌}
use native.Mathlib.Nat.{zero-add}
use lib.Dec.{leb, eqb}
use lib.ListN.{length}
use borrow.Author.Tests.{eq-eqb, leb-true, le-leb, not-true, not-false}
use Rattle.definition.specs.Lists.{all}
use Rattle.definition.specs.Model.{ok_model}
use Rattle.definition.specs.State.{Process}
use Rattle.definition.specs.BadState.{ok_process, ok_processes, ok_mail, bad}
use Rattle.laws.specs.Places.{and_true, true_and}
use Rattle.queue.specs.Rows.{mails}
use Rattle.rule.specs.Rows.{processes_of, model_of, lawful_model, shaped_model}
use Rattle.memory.specs.Memory.{Memory, Rows, number, process_at, whole, state_of, shaped_at, shaped, lawful, listed, all_of}
use Rattle.memory.specs.Laws.{at_shape, shape, all_of_at, at_all_of, model_count, mail_count, process_count, lawful_shape}
use Rattle.badstate.specs.Parts.{lawful_process, lawful_at, ok_numbers, lawful_whole}

-- ---- process after process

processes_from : (n h k c : ℕ) (f : ℕ → Process) → ok_processes n h k (listed k c f) ≡ all_of k c (λ p. ok_process n h p (f p))
unfolding all_of listed ok_processes
processes_from n h k zero f = refl
processes_from n h k (suc c) f = ap (λ (b : Bool). ok_process n h k (f k) && b) (processes_from n h (suc k) c f)

-- ---- the whole

same_truth : (a b : Bool) → (a ≡ true → b ≡ true) → (b ≡ true → a ≡ true) → a ≡ b
same_truth true b f g = sym (f refl)
same_truth false true f g = g refl
same_truth false false f g = refl

module _ (m : Memory) where
  abbrev n : ℕ
  n = processes_of m.model

  abbrev h : ℕ
  h = number (whole m) 1

  abbrev at : ℕ → Bool
  at = lawful_at (processes_of m.model) (number (whole m) 1) m.own m.inputs m.outputs

  -- in the order of the tests
  abbrev tested : Bool
  tested = lawful_model m.model && (eqb (length m.inputs) 8 && (eqb (length m.outputs) 8 && (eqb (length m.own) 9 && (lawful_whole n (whole m) m.transit && all_of 0 n at))))

  -- what `bad` denies of the state
  abbrev sane : Bool
  sane =
      ok_model (state_of m).model && (eqb (length (state_of m).processes) (length (state_of m).model) && (ok_processes (length (state_of m).model) h 0 (state_of m).processes
      && (leb (length (state_of m).transit) 128 && (all (ok_mail (length (state_of m).model) h) (state_of m).transit && ok_numbers h (number (whole m) 2) (number (whole m) 3)))))

  forth : lawful m ≡ true → tested ≡ true
  unfolding lawful bad state_of lawful_model lawful_whole ok_numbers lawful_process
  forth l =
      let s = lawful_shape m l in
      let k : sane ≡ true = not-false _ (not-true _ (and_true (shaped m) (not (bad (state_of m))) l).1) in
      let a = and_true (ok_model (state_of m).model) _ k in
      let b = and_true (eqb (length (state_of m).processes) (length (state_of m).model)) _ a.1 in
      let c = and_true (ok_processes (length (state_of m).model) h 0 (state_of m).processes) _ b.1 in
      let d = and_true (leb (length (state_of m).transit) 128) _ c.1 in
      let e = and_true (all (ok_mail (length (state_of m).model) h) (state_of m).transit) _ d.1 in
      let each : all_of 0 n (λ p. ok_process n h p (process_at m p)) ≡ true = rw (model_count m s, processes_from n h 0 n (process_at m)) at c.0 in
      true_and (true_and s.model a.0) (true_and (eq-eqb _ 8 s.inputs) (true_and (eq-eqb _ 8 s.outputs) (true_and (eq-eqb _ 9 s.own)
      (true_and
      (true_and (eq-eqb _ 128 s.transit) (true_and (eq-eqb _ 33 s.numbers) (true_and (le-leb _ 128 s.mail) (true_and (rw (model_count m s) at e.0) e.1))))
      (at_all_of 0 n at (λ p i. rw (zero-add p) (true_and (at_shape m p (s.at p i)) (rw zero-add at (all_of_at 0 n (λ p. ok_process n h p (process_at m p)) each p i)))))))))

  back : tested ≡ true → lawful m ≡ true
  unfolding lawful shaped bad state_of lawful_model lawful_whole ok_numbers lawful_process
  back t =
      let a = and_true (lawful_model m.model) _ t in
      let b = and_true (eqb (length m.inputs) 8) _ a.1 in
      let c = and_true (eqb (length m.outputs) 8) _ b.1 in
      let d = and_true (eqb (length m.own) 9) _ c.1 in
      let e = and_true (lawful_whole n (whole m) m.transit) (all_of 0 n at) d.1 in
      let f = and_true (eqb (length m.transit) 128) _ e.0 in
      let g = and_true (eqb (length (whole m)) 33) _ f.1 in
      let i = and_true (leb (number (whole m) 0) 128) _ g.1 in
      let j = and_true (all (ok_mail n h) (mails m.transit (number (whole m) 0))) _ i.1 in
      let k = and_true (shaped_model m.model) (ok_model (model_of m.model)) a.0 in
      let each : (p : ℕ) → p < n → at p ≡ true = λ p l. rw zero-add at (all_of_at 0 n at e.1 p l) in
      let s : shaped m ≡ true
      = true_and k.0 (true_and b.0 (true_and c.0 (true_and f.0 (true_and d.0 (true_and g.0 (true_and i.0
      (at_all_of 0 n (shaped_at m) (λ p l. rw (zero-add p) (and_true (shaped_at m p) _ (each p l)).0)))))))) in
      let r = shape m s in
      let few : leb (length (state_of m).transit) 128 ≡ true = le-leb (length (state_of m).transit) 128 (rw (mail_count m r) r.mail) in
      let ok : ok_processes (length (state_of m).model) h 0 (state_of m).processes ≡ true
      = rw (model_count m r, processes_from n h 0 n (process_at m)) (at_all_of 0 n (λ p. ok_process n h p (process_at m p)) (λ p l. rw (zero-add p) (and_true (shaped_at m p) _ (each p l)).1)) in
      let sent : all (ok_mail (length (state_of m).model) h) (state_of m).transit ≡ true = rw (model_count m r) j.0 in
      let v : sane ≡ true = true_and k.1 (true_and (eq-eqb _ _ (process_count m ∙ sym (model_count m r))) (true_and ok (true_and few (true_and sent j.1)))) in
      true_and s (rw v)

  pub lawful_is : lawful m ≡ tested
  lawful_is = same_truth (lawful m) tested forth back

pub model_few : (M : List Rows) → lawful_model M ≡ true → processes_of M ≤ 8
unfolding lawful_model shaped_model
model_few M l =
    let a = and_true (shaped_model M) (ok_model (model_of M)) l in
    let b = and_true (eqb (length M) 8) _ a.0 in
    leb-true _ _ (and_true (leb (processes_of M) 8) _ b.1).0
