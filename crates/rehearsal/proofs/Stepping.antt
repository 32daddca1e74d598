-- The turn of a call keeps its promise: refused and nothing changed, at the end of the input, by a fault's line, or by the call's own.
use mathlib.Core.Path.{◌≡◌, refl, sym, ap, ◌∙◌}
use mathlib.Core.Bool.{true, false}
use mathlib.Core.List.{List}
use Prim.Native.Nat.{ℕ, zero, suc, ◌≤◌, ◌<◌}
use native.Mathlib.Omega.{arith}
use borrow.Author.Tests.{lt-ltb, le-ltb}
use lib.ListN.{length}
use Rattle.definition.specs.declared.Call.{Call}
use Rattle.definition.specs.ModelBytes.{Got, Fault}
use Rattle.definition.specs.Program.{call_text, fault_line, call_at}
use Rattle.definition.specs.Record.{onto}
use Rattle.memory.specs.Memory.{Memory, state_of, lawful}
use Rattle.rehearsal.specs.Turns.{turn_at, turn_over, turn_on}
use Rattle.lines.specs.Promise.{longest, Works}
use Rattle.rehearsal.specs.Promise.{Progress, Printed, Refused, turn_refusal, turn_due, Prints, Says, is_refusal}

module _ (m : Memory) (bs : List ℕ) (at : ℕ) (before : List ℕ) where
  abbrev Turned : Progress → Memory → List ℕ → Type 0
  Turned a w after = Prints m (turn_due m (length before) bs at) a w before after

  -- refused by a number: nothing is written
  refused : (n : ℕ) → turn_refusal m (length before) bs ≡ n → 0 < n → Turned (Refused n) m before
  unfolding turn_due onto
  refused zero e h = absurd (omega arith)
  refused (suc n) e h = record { answer = rw e; text = rw e; state = rw e; same = λ _. refl; lawful_again = λ l. l }

  pub unlawful : lawful m ≡ false → Turned (Refused 16) m before
  unfolding turn_refusal
  unlawful l = refused 16 (rw l) (omega arith)

  pub too_short : lawful m ≡ true → length before < longest → Turned (Refused 8) m before
  unfolding turn_refusal
  too_short l h = refused 8 (rw (l, lt-ltb (length before) longest h)) (omega arith)

  pub too_long : lawful m ≡ true → longest ≤ length before → 65_536 < length bs → Turned (Refused 15) m before
  unfolding turn_refusal
  too_long l h k = refused 15 (rw (l, le-ltb (length before) longest h, lt-ltb 65_536 (length bs) k)) (omega arith)

  module _ (l : lawful m ≡ true) (h : longest ≤ length before) (k : length bs ≤ 65_536) where
    -- a turn that says these lines and leaves this memory
    turned : {a : Progress} {w : Memory} {after lines : List ℕ} {next : ℕ} → Says lines next a before after → turn_at bs (state_of m) at ≡ record { lines = lines; next = next; after = state_of w }
        → lawful w ≡ true → Turned a w after
    unfolding turn_due turn_refusal
    turned s t i = let z : turn_refusal m (length before) bs ≡ 0 = rw (l, le-ltb (length before) longest h, le-ltb 65_536 (length bs) k) in
        record { answer = rw (z, t) s.answer; text = rw (z, t) s.text; state = rw (z, t); same = λ r. no (sym (ap is_refusal s.answer) ∙ r); lawful_again = λ _. i }
      where
        no : {X : Type 0} → false ≡ true → X
        no z = let y : ◌≡◌ {A = ℕ} 0 1 = cc in absurd (omega arith)

    pub nothing_left : length bs ≤ at → Turned (Printed 0 at) m before
    unfolding onto
    nothing_left e = turned (record { answer = refl; text = refl }) (turn_over bs (state_of m) at e) l

    module _ (on : at < length bs) where
      pub call_fault : {a : Progress} {after : List ℕ} (n place : ℕ) → call_at bs at ≡ Fault n place → Says (fault_line call_text n place) (length bs) a before after → Turned a m after
      call_fault n place e s = turned s (turn_on bs (state_of m) at on ∙ rw e) l

      pub call_made : {w : Memory} {after : List ℕ} {end : ℕ} (c : Call) (next : ℕ) → call_at bs at ≡ Got c next → Works m c w before end after → Turned (Printed end next) w after
      call_made c next e s = turned (record { answer = ap (λ (n : ℕ). Printed n next) s.end; text = s.text }) (turn_on bs (state_of m) at on ∙ rw (e, s.state)) s.lawful_again
