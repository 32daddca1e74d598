-- The whole program: `begin`, and then `step` after `step` while something is left of the input, each on the memory that the one before left. What each
-- turn promises settles all that they print, joined: it is `printed` of the input, if the first turn is not refused. Then no step is. So the lines of
-- events in it are the committed record, as demand 3 says it.
use Rattle.std.specs.Prelude.{◌≡◌, true, false, length, take, drop}
use Rattle.std.proofs.Math.Path.{refl, sym, ap₂}
use Rattle.std.proofs.Common.{ap, ◌∙◌, arith}
use mathlib.Core.List.{List, [], ◌++◌}
use Prim.Native.Nat.{ℕ, zero, suc, ◌+◌, ◌≤◌, ◌<◌}
use borrow.Author.Tests.{le-ltb}
use Rattle.std.proofs.Math.Seq.{take-append_seam}
use Rattle.definition.specs.Model.{Model}
use Rattle.definition.specs.ModelBytes.{Parsed, Got, Fault, model_in}
use Rattle.definition.specs.Program.{printed}
use Rattle.definition.specs.Record.{onto}
use Rattle.definition.specs.Rehearsal.{rehearsal}
use Rattle.runfile.specs.Reading.{head_of, head_within}
use Rattle.memory.specs.Memory.{Memory, state_of, lawful}
use Rattle.lines.specs.Promise.{longest}
use Rattle.rehearsal.specs.Turns.{Turn, head_turn, model_turn, first_turn, turn_at, turns_from, turn_later, turns_over, turns_on, program}
use Rattle.rehearsal.specs.Promise.{Progress, due_by, first_refusal, first_due, turn_refusal, turn_due, is_refusal, model_by, Prints, Begins}
use Rattle.rehearsal.specs.Moving.{end_of, next_of}
use Rattle.rehearsal.specs.EventLines.{event_lines_in}
use Rattle.rehearsal.specs.Committed.{calls_read, run_lines, printed_record}

-- the program's loop, `while at < bytes.len()`: step after step from a place on, each with a text that is long enough, and from the place that the one
-- before gave; what each printed, joined
pub data Steps (bs : List ℕ) : Memory → ℕ → List ℕ → Type 0 where
  over : {m : Memory} {at : ℕ} → length bs ≤ at → Steps bs m at []
  step : {m w : Memory} {at : ℕ} {a : Progress} {before after out : List ℕ} → at < length bs → longest ≤ length before
      → Prints m (turn_due m (length before) bs at) a w before after → Steps bs w (next_of a (length bs)) out → Steps bs m at (take (end_of a) after ++ out)

-- ---- a turn that is not refused

record Turned (turn : Turn) (a : Progress) (w : Memory) (after : List ℕ) (input : ℕ) : Type 0 where
  lines : take (end_of a) after ≡ turn.lines
  next : next_of a input ≡ turn.next
  state : state_of w ≡ turn.after

turned : (m : Memory) (turn : Turn) (n input : ℕ) {a : Progress} {w : Memory} {before after : List ℕ} → Prints m (due_by m turn n) a w before after → is_refusal a ≡ false
    → Turned turn a w after input
unfolding onto
turned m turn zero input p r = rw p.answer (record { lines = rw p.text (take-append_seam turn.lines _); next = refl; state = p.state })
turned m turn (suc n) input p r = let e : true ≡ false = sym (ap is_refusal p.answer) ∙ r in let z : ◌≡◌ {A = ℕ} 0 1 = cc in absurd (omega arith)

-- ---- all turns

-- where something is left, a step will not be refused
abbrev Ready : List ℕ → Memory → ℕ → Type 0
Ready bs m at = at < length bs → (lawful m ≡ true) × (length bs ≤ 65_536)

module _ (bs : List ℕ) where
  not_refused : {m w : Memory} (at : ℕ) {a : Progress} {before after : List ℕ} → (lawful m ≡ true) × (length bs ≤ 65_536) → longest ≤ length before
      → Prints m (turn_due m (length before) bs at) a w before after → is_refusal a ≡ false
  unfolding turn_due turn_refusal
  not_refused at {before = before} k h p = rw p.answer (rw (k.0, le-ltb (length before) longest h, le-ltb 65_536 (length bs) k.1))

  steps : (n : ℕ) {m : Memory} {at : ℕ} {out : List ℕ} → length bs ≤ at + n → Ready bs m at → Steps bs m at out → out ≡ turns_from n bs (state_of m) at
  unfolding turn_due
  steps n {m} {at} l k (over h) = sym (turns_over bs n (state_of m) at h)
  steps zero l k (step h r p s) = absurd (omega arith)
  steps (suc n) {m} {at} l k (step {before = before} h r p s) =
      let t = turned m (turn_at bs (state_of m) at) (turn_refusal m (length before) bs) (length bs) p (not_refused at (k h) r p) in
      let later = turn_later bs (state_of m) at h in
      ap₂ ◌++◌ t.lines (steps n (omega (arith, t.next)) (λ _. (p.lawful_again (k h).0, (k h).1)) s ∙ rw (t.state, t.next)) ∙ sym (turns_on bs n (state_of m) at h)

module _ {m w : Memory} {bs : List ℕ} {a : Progress} {before after : List ℕ} (b : Begins m bs a w before after) (r : is_refusal a ≡ false) where
  -- where the file or the model has a fault nothing is left; else the model was started
  ready : Ready bs w (first_turn bs (state_of m)).next
  unfolding first_turn
  ready = go (head_of bs) refl
    where
      go : (h : Parsed ℕ) → head_of bs ≡ h → Ready bs w (head_turn bs (state_of m) h).next
      go (Fault n at) e k = absurd (omega arith)
      go (Got at size) e k = by (model_in (take size (drop at bs))) refl k
        where
          by : (p : Parsed Model) → model_in (take size (drop at bs)) ≡ p → Ready bs w (model_turn bs (state_of m) at size p).next
          by (Got M next) d k = (b.lawful_first r M next (ap (model_by bs) e ∙ d), (head_within bs at size e).1)
          by (Fault n place) d k = absurd (omega arith)

  -- all that is printed, from the first turn to the last
  pub all_printed : {out : List ℕ} → Steps bs w (next_of a (length bs)) out → take (end_of a) after ++ out ≡ printed bs
  unfolding first_due
  all_printed s =
      let t = turned m (first_turn bs (state_of m)) (first_refusal m (length before)) (length bs) b.prints r in
      ap₂ ◌++◌ t.lines (steps bs (length bs) (omega arith) (λ k. ready (omega (arith, t.next))) s ∙ rw (t.state, t.next)) ∙ program bs (state_of m)

  -- the lines of events in it: the record of demand 3
  pub all_committed : {out : List ℕ} → Steps bs w (next_of a (length bs)) out → {at size : ℕ} → head_of bs ≡ Got at size
      → {M : Model} {next : ℕ} → model_in (take size (drop at bs)) ≡ Got M next
      → event_lines_in (take (end_of a) after ++ out) ≡ run_lines M (rehearsal M (calls_read bs (at + size)))
  all_committed s h e = ap event_lines_in (all_printed s) ∙ printed_record bs h e
