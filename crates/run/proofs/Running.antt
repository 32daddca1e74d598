-- The loop over the calls. What was made so far is a list of calls; with what is still made from here on it is all that is made; and state, rows and
-- record are those of these calls. A turn makes one call more.
use mathlib.Core.Path.{◌≡◌, refl, sym, ap, ap₂, ◌∙◌, subst}
use mathlib.Core.Bool.{true}
use mathlib.Core.List.{List, [], ◌∷◌, ◌++◌, append_assoc, append-nil}
use Prim.Native.Nat.{ℕ, suc, ◌+◌, ◌-◌, ◌≤◌, ◌<◌}
use native.Mathlib.Numerals.{add-one}
use native.Mathlib.Omega.{arith}
use lib.ListN.{length, take, drop, set, length-append}
use lib.Seq.{drop-cons, drop-drop, set_at, take_at, drop_at}
use Rattle.definition.specs.declared.Call.{Call}
use Rattle.definition.specs.State.{State}
use Rattle.definition.specs.Record.{onto}
use Rattle.definition.specs.Calls.{Result}
use Rattle.definition.specs.BadState.{call}
use Rattle.definition.specs.Rehearsal.{Rehearsal, after, calls, answers_of}
use Rattle.memory.specs.Memory.{Memory, Rows, state_of, lawful}
use Rattle.run.specs.Promise.{Done}
use Rattle.std.specs.Prelude.{Some, None}
use Rattle.run.specs.Made.{Made, made, turn_of, before, made_stop, made_call, before_more}
use Rattle.run.specs.Rows.{row_of, rows_of, calls_more, rows_more, rows_length}
use Rattle.run.specs.Promise.{Worked, Turned, from, Works}
use Rattle.run.proofs.Reading.{makes}

-- ---- lists that are filled from the front

-- the first place that is not filled
fill_one : {A : Type 0} (filled l : List A) (a : A) (n : ℕ) → length filled ≡ n → n < length l → set (filled ++ drop n l) n a ≡ (filled ++ (a ∷ [])) ++ drop (n + 1) l
fill_one filled l a n e h =
    rw (drop-cons l n a h, add-one n) (set_at filled _ (drop (suc n) l) a n e ∙ sym (append_assoc filled (a ∷ []) (drop (suc n) l)))

-- more bytes after those that stand there
onto_more : (first more l : List ℕ) (n : ℕ) → n ≡ length first → take n (onto first l) ++ onto more (drop n (onto first l)) ≡ onto (first ++ more) l
unfolding onto
onto_more first more l n e =
    ap₂ (λ (x y : List ℕ). x ++ onto more y) (take_at first (drop (length first) l) n (sym e)) (drop_at first (drop (length first) l) n (sym e))
    ∙ sym (append_assoc first more (drop (length more) (drop (length first) l)))
    ∙ ap (λ (x : List ℕ). (first ++ more) ++ x) (drop-drop (length more) (length first) l ∙ ap (λ (k : ℕ). drop k l) (sym (length-append first more)))

-- ---- the loop

-- m, answers and committed at the loop's begin; w, answers' and committed' now
pub record Running (bs : List ℕ) (m : Memory) (answers : Rows) (committed : List ℕ) (w : Memory) (answers' : Rows) (committed' : List ℕ) (count at recorded : ℕ) : Type 0 where
  pub done : List Call
  pub all : before done (made (length answers - count) (length committed - recorded) bs (state_of w) at) ≡ made (length answers) (length committed) bs (state_of m) 0
  pub number : length done ≡ count
  pub state : state_of w ≡ (calls (from (state_of m)) done).state
  pub rows : answers' ≡ rows_of (state_of m) done ++ drop count answers
  pub end : recorded ≡ length (calls (from (state_of m)) done).bytes
  pub bytes : committed' ≡ onto (calls (from (state_of m)) done).bytes committed
  pub lawful_now : lawful w ≡ true
  pub few : count ≤ length answers
  pub room : recorded ≤ length committed

module _ (bs : List ℕ) (m : Memory) (answers : Rows) (committed : List ℕ) where
  pub running_first : lawful m ≡ true → Running bs m answers committed m answers committed 0 0 0
  unfolding calls rows_of answers_of onto
  running_first l =
      record {
        done = [];
        all = let e : length answers - 0 ≡ length answers = omega arith in let f : length committed - 0 ≡ length committed = omega arith in rw (e, f);
        number = refl;
        state = refl;
        rows = refl;
        end = refl;
        bytes = refl;
        lawful_now = l;
        few = omega arith;
        room = omega arith;
      }

  module _ (w : Memory) (answers' : Rows) (committed' : List ℕ) (count at recorded : ℕ) (r : Running bs m answers committed w answers' committed' count at recorded)
      (same_rows : length answers' ≡ length answers) (same_bytes : length committed' ≡ length committed) where
    -- nothing more is made
    pub running_stop : turn_of bs at (length answers' - count) (length committed' - recorded) ≡ None
        → Works bs (state_of m) (Done count at recorded) w answers answers' committed committed'
    running_stop e =
        let stop : made (length answers - count) (length committed - recorded) bs (state_of w) at ≡ record { calls = []; next = at } =
        made_stop bs (state_of w) at (length answers - count) (length committed - recorded) (rw (same_rows, same_bytes) at e) in
        let whole : record { calls = r.done; next = at } ≡ made (length answers) (length committed) bs (state_of m) 0 =
        ap (λ (l : List Call). record { calls = l; next = at }) (sym (append-nil r.done)) ∙ ap (before r.done) (sym stop) ∙ r.all in
        subst (λ (x : Made). Worked (calls (from (state_of m)) x.calls) (state_of m) x (Done count at recorded) w answers answers' committed committed') whole (record {
          answer = ap₂ (λ (j k : ℕ). Done j at k) (sym r.number) r.end;
          state = r.state;
          rows = r.rows ∙ ap (λ (k : ℕ). rows_of (state_of m) r.done ++ drop k answers) (sym r.number);
          bytes = r.bytes;
          lawful_again = r.lawful_now;
        })

    -- one call more
    module _ (c : Call) (next : ℕ) (e : turn_of bs at (length answers' - count) (length committed' - recorded) ≡ Some (c, next)) where
      z : Rehearsal
      z = calls (from (state_of m)) r.done

      pub running_again : (v : Memory) (answers'' : Rows) (committed'' : List ℕ) (n : ℕ) → Turned w c n v answers' answers'' count committed' committed'' recorded
          → Running bs m answers committed v answers'' committed'' (count + 1) next n
      unfolding z
      running_again v answers'' committed'' n t =
          let k = makes bs at c next (length answers' - count) (length committed' - recorded) e in
          let more : calls (from (state_of m)) (r.done ++ (c ∷ [])) ≡ after z c (call z.state c) = calls_more c (from (state_of m)) r.done in
          let here : call (state_of w) c ≡ call z.state c = ap (λ (s : State). call s c) r.state in
          let turn : made (length answers - count) (length committed - recorded) bs (state_of w) at
          ≡ before (c ∷ []) (made ((length answers - count) - 1) ((length committed - recorded) - length (call (state_of w) c).bytes) bs (call (state_of w) c).after next) =
          made_call bs (state_of w) at (length answers - count) (length committed - recorded) c next (rw (same_rows, same_bytes) at e) in
          let less : length answers - (count + 1) ≡ (length answers - count) - 1 = omega arith in
          let shorter : length committed - n ≡ (length committed - recorded) - length (call (state_of w) c).bytes = omega (arith, t.end) in
          let bytes-more : (calls (from (state_of m)) (r.done ++ (c ∷ []))).bytes ≡ z.bytes ++ (call (state_of w) c).bytes =
          ap (λ (y : Rehearsal). y.bytes) more ∙ ap (λ (y : Result). z.bytes ++ y.bytes) (sym here) in
          record {
            done = r.done ++ (c ∷ []);
            all = rw (less, shorter, t.state) (before_more r.done c _ ∙ ap (before r.done) (sym turn) ∙ r.all);
            number = length-append r.done (c ∷ []) ∙ ap (λ (j : ℕ). j + 1) r.number;
            state = t.state ∙ ap (λ (y : Result). y.after) here ∙ sym (ap (λ (y : Rehearsal). y.state) more);
            rows =
                t.rows
                ∙ ap₂ (λ (l : Rows) (y : List ℕ). set l count y) r.rows (ap (λ (y : Result). row_of y.answer) here)
                ∙ fill_one (rows_of (state_of m) r.done) answers (row_of (call z.state c).answer) count (rows_length (state_of m) r.done ∙ r.number) (omega (arith, k.row))
                ∙ ap (λ (l : Rows). l ++ drop (count + 1) answers) (sym (rows_more c (from (state_of m)) r.done));
            end = t.end ∙ omega (arith, r.end, length-append z.bytes (call (state_of w) c).bytes, ap length bytes-more);
            bytes =
                t.bytes
                ∙ ap (λ (l : List ℕ). take recorded l ++ onto (call (state_of w) c).bytes (drop recorded l)) r.bytes
                ∙ onto_more z.bytes (call (state_of w) c).bytes committed recorded r.end
                ∙ ap (λ (l : List ℕ). onto l committed) (sym bytes-more);
            lawful_now = t.lawful_again;
            few = omega (arith, k.row);
            room = omega (arith, t.within);
          }
