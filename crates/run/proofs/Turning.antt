-- One call of a run: what `calls::make` promises of the part of the record that it is lent is what a turn promises of the whole record.
use mathlib.Core.Path.{◌≡◌, sym, ap, ◌∙◌}
use mathlib.Core.Bool.{true, not}
use mathlib.Core.List.{List, ◌++◌, append_assoc}
use Prim.Native.Nat.{ℕ, ◌+◌, ◌-◌, ◌≤◌}
use native.Mathlib.Omega.{arith}
use lib.ListN.{length, take, drop, set, length-append, length-take, length-drop, take-append-drop}
use lib.Seq.{length-take-le, drop-append-le}
use Rattle.definition.specs.Answer.{Answer}
use Rattle.definition.specs.declared.Call.{Call}
use Rattle.definition.specs.Record.{onto}
use Rattle.definition.specs.Calls.{Result}
use Rattle.definition.specs.BadState.{call}
use Rattle.memory.specs.Memory.{Memory, Rows, state_of, shaped, lawful}
use Rattle.memory.specs.Laws.{lawful_shape, shape_shaped}
use Rattle.memory.specs.Keeping.{check_no}
use Rattle.memory.specs.Promise.{due, Committed}
use Rattle.lawful.specs.Written.{written_of, told_bytes}
use Rattle.run.specs.Rows.{row_of}
use Rattle.run.specs.Promise.{Turned}

-- ---- a part of the record

-- bytes that leave the length as it was are no longer than what they stand in
onto_fits : (bytes l : List ℕ) → length (onto bytes l) ≡ length l → length bytes ≤ length l
unfolding onto
onto_fits bytes l e = omega (arith, length-append bytes (drop (length bytes) l), length-drop (length bytes) l)

-- written to the first part of a list, they are written to the list
onto_part : (bytes l : List ℕ) (k : ℕ) → length bytes ≤ length (take k l) → onto bytes (take k l) ++ drop k l ≡ onto bytes l
unfolding onto
onto_part bytes l k h =
    append_assoc bytes (drop (length bytes) (take k l)) (drop k l)
    ∙ ap (λ (r : List ℕ). bytes ++ r) (sym (drop-append-le (length bytes) (take k l) (drop k l) h) ∙ ap (drop (length bytes)) (take-append-drop k l))

-- the part that an advance is lent is as long as it must be
pub part_length : (l : List ℕ) (at k : ℕ) → at + k ≤ length l → length (take ((at + k) - at) (drop at l)) ≡ k
part_length l at k h = length-take-le ((at + k) - at) (drop at l) (omega (arith, length-drop at l)) ∙ (let z : (at + k) - at ≡ k = omega arith in z)

-- ---- the turn

-- on a lawful memory what is due is the call
due_call : (m : Memory) (c : Call) → lawful m ≡ true → due m c ≡ call (state_of m) c
unfolding due
due_call m c l = check_no (not (shaped m)) 16 (state_of m) (call (state_of m) c) (ap not (shape_shaped m (lawful_shape m l)))

module _ (m w : Memory) (c : Call) (a : Answer) (answers : Rows) (place : ℕ) (committed d : List ℕ) (recorded k : ℕ) where
  pub turned : lawful m ≡ true → Committed m c a w (take k (drop recorded committed)) d → length d ≡ length (take k (drop recorded committed))
      → recorded ≤ length committed → (n : ℕ) → n ≡ written_of a → (row : List ℕ) → row ≡ row_of a
      → Turned m c (recorded + n) w answers (set answers place row) place committed (take recorded committed ++ (d ++ drop k (drop recorded committed))) recorded
  turned l h e low n f row g =
      let same = due_call m c l in
      let r : Result = call (state_of m) c in
      let answer : a ≡ r.answer = h.kept.answer ∙ ap (λ (x : Result). x.answer) same in
      let buffer : d ≡ onto r.bytes (take k (drop recorded committed)) = h.buffer ∙ ap (λ (x : Result). onto x.bytes (take k (drop recorded committed))) same in
      let fits : length r.bytes ≤ length (take k (drop recorded committed)) = onto_fits r.bytes _ (ap length (sym buffer) ∙ e) in
      let written : n ≡ length r.bytes = f ∙ ap written_of answer ∙ told_bytes (state_of m) c in
      record {
        end = ap (λ (j : ℕ). recorded + j) written;
        within = omega (arith, length-take k (drop recorded committed), length-drop recorded committed);
        state = h.kept.state ∙ ap (λ (x : Result). x.after) same;
        rows = ap (set answers place) (g ∙ ap row_of answer);
        bytes = ap (λ (x : List ℕ). take recorded committed ++ x) (ap (λ (x : List ℕ). x ++ drop k (drop recorded committed)) buffer ∙ onto_part r.bytes (drop recorded committed) k fits);
        lawful_again = h.kept.lawful_again l;
      }
