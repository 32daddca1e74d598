-- The rehearsal of document 01, as a run: with a row for each of its calls and room for its record and one buffer more, all its calls are made, and
-- what the promise then gives are the answers and the record of the document.
use Rattle.std.specs.Prelude.{◌≡◌, refl, false, List, [], ◌∷◌, ◌++◌, ℕ, ◌<◌, length, drop, get_or}
use Rattle.std.proofs.Common.{sym, ap, ◌∙◌, arith}
use Rattle.definition.specs.declared.Call.{Call}
use Rattle.definition.specs.Calls.{check, started}
use Rattle.definition.specs.Message.{never}
use Rattle.definition.specs.Record.{onto}
use Rattle.definition.specs.Rehearsal.{answers_of, rehearsal}
use Rattle.demands.specs.Cases.{example, whole}
use Rattle.rule.specs.Rows.{model_of}
use Rattle.memory.specs.Memory.{Memory, Rows}
use Rattle.memory.specs.Promise.{is_refusal, due_start}
use Rattle.run.specs.Promise.{Ran}
use Rattle.run.specs.Promise.{Done}
use Rattle.run.specs.Made.{made}
use Rattle.run.specs.Rows.{rows_of}
use Rattle.run.specs.Promise.{Rehearsed, Runs, calls_due}

-- the calls, as they stand in the document after the model
abbrev whole_bytes : List ℕ
whole_bytes =
    0x00 ∷ 0x00 ∷ 0x00 ∷ 0x0a ∷ 0x01 ∷ 0x00 ∷ 0x00 ∷ 0x01 ∷ 0x00 ∷ 0x05 ∷ 0x01 ∷ 0x00
    ∷ 0x01 ∷ 0x00 ∷ 0x02 ∷ 0x00 ∷ 0x01 ∷ 0x00 ∷ 0x02 ∷ 0x00 ∷ 0x02 ∷ 0x00 ∷ 0x01 ∷ 0x01
    ∷ 0x03 ∷ 0xff ∷ 0xff ∷ 0xff ∷ 0xff ∷ 0x0f ∷ 0x01 ∷ 0x00 ∷ 0x01 ∷ 0x00 ∷ 0x01 ∷ 0x00
    ∷ 0x02 ∷ 0x01 ∷ 0x02 ∷ 0x01 ∷ 0x01 ∷ 0x00 ∷ 0x01 ∷ 0x00 ∷ 0x02 ∷ 0x02 ∷ 0x02 ∷ 0x02
    ∷ 0x03 ∷ 0xff ∷ 0xff ∷ 0xff ∷ 0xff ∷ 0x0f ∷ 0x00 ∷ 0x01 ∷ 0x00 ∷ 0x14 ∷ 0x01 ∷ 0x00
    ∷ 0x00 ∷ 0x02 ∷ 0x00 ∷ 0x14 ∷ 0x01 ∷ 0x00 ∷ []

example_made : made 21 4_126 whole_bytes (started example) 0 ≡ record { calls = whole; next = 66 }
unfolding made check started
example_made = refl

-- a row less, and the last call is not made; a byte less, and the two after the last advance are not
pub example_rows_end : (made 20 4_126 whole_bytes (started example) 0).next ≡ 60
unfolding made check started
example_rows_end = refl

pub example_room_ends : (made 21 4_125 whole_bytes (started example) 0).next ≡ 54
unfolding made check started
example_room_ends = refl

abbrev whole_rows : List (List ℕ)
whole_rows =
    (0 ∷ 0 ∷ 0 ∷ 0 ∷ []) ∷ (0 ∷ 0 ∷ 0 ∷ 0 ∷ []) ∷ (0 ∷ 0 ∷ 0 ∷ 0 ∷ []) ∷ (0 ∷ 10 ∷ 1 ∷ 1 ∷ []) ∷ (0 ∷ 1 ∷ 1 ∷ 0 ∷ []) ∷ (0 ∷ 5 ∷ 1 ∷ 1 ∷ [])
    ∷ (0 ∷ 10 ∷ 1 ∷ 1 ∷ []) ∷ (0 ∷ 0 ∷ 0 ∷ 0 ∷ []) ∷ (0 ∷ 8 ∷ 1 ∷ 5 ∷ []) ∷ (0 ∷ 0 ∷ 0 ∷ 0 ∷ []) ∷ (0 ∷ 0 ∷ 0 ∷ 0 ∷ []) ∷ (0 ∷ 0 ∷ 0 ∷ 0 ∷ [])
    ∷ (0 ∷ 8 ∷ 1 ∷ 1 ∷ []) ∷ (0 ∷ 13 ∷ 1 ∷ 1 ∷ []) ∷ (0 ∷ 0 ∷ 0 ∷ 0 ∷ []) ∷ (0 ∷ 0 ∷ 0 ∷ 0 ∷ []) ∷ (0 ∷ 10 ∷ 1 ∷ 0 ∷ []) ∷ (0 ∷ 15 ∷ 1 ∷ 0 ∷ [])
    ∷ (0 ∷ never ∷ 5 ∷ 25 ∷ []) ∷ (2 ∷ 0 ∷ 0 ∷ 0 ∷ []) ∷ (4 ∷ 0 ∷ 0 ∷ 0 ∷ []) ∷ []

example_rows : rows_of (started example) whole ≡ whole_rows
unfolding rows_of answers_of check started
example_rows = refl

abbrev whole_record : List ℕ
whole_record = 5 ∷ 0 ∷ 1 ∷ 0 ∷ 1 ∷ 3 ∷ 1 ∷ 1 ∷ 0 ∷ 1 ∷ 2 ∷ 0 ∷ 1 ∷ 0 ∷ 2 ∷ 0 ∷ 2 ∷ 1 ∷ 0 ∷ 1 ∷ 3 ∷ 1 ∷ 1 ∷ 0 ∷ 3 ∷ 2 ∷ 2 ∷ 1 ∷ 0 ∷ 2 ∷ []

example_record : (rehearsal example whole).bytes ≡ whole_record
unfolding rehearsal check
example_record = refl

-- so no list of bytes is the record of every rehearsal: this one has these, and one without calls has none
pub not_one_record : (fixed : List ℕ) → ((cs : List Call) → (rehearsal example cs).bytes ≡ fixed) → ⊥
unfolding rehearsal
not_one_record fixed same =
    let e : whole_record ≡ [] = sym example_record ∙ same whole ∙ sym (same []) in
    omega (arith, ap length e)

-- whatever meets the promise on this input
module _ {m w : Memory} {a : Ran} {answers answers' : Rows} {committed committed' : List ℕ} (h : Runs whole_bytes m a w answers answers' committed committed')
    (begins : is_refusal (due_start m).answer ≡ false) (model : model_of m.model ≡ example) (rows : length answers ≡ 21) (room : length committed ≡ 4_126) where
  -- gives these answers and this record
  pub example_run : (a ≡ Done 21 66 30) × (answers' ≡ whole_rows ++ drop 21 answers) × (committed' ≡ onto whole_record committed)
  example_run =
      let calls : calls_due whole_bytes m answers committed ≡ record { calls = whole; next = 66 } = rw (model, rows, room) example_made in
      let r : Rehearsed example (record { calls = whole; next = 66 }) a w answers answers' committed committed' = rw (calls, model) at (h.rehearsed begins) in
      let k = r.worked in (
        k.answer ∙ ap (λ (l : List ℕ). Done 21 66 (length l)) example_record,
        k.rows ∙ ap (λ (l : Rows). l ++ drop 21 answers) example_rows,
        k.bytes ∙ ap (λ (l : List ℕ). onto l committed) example_record,
      )

  -- so it is no engine that works its first call and then only says ok: the last calls are refused
  pub not_only_ok : ((k : ℕ) → k < 21 → get_or (get_or answers' k []) 0 0 ≡ 0) → ⊥
  not_only_ok ok =
      let e : ◌≡◌ {A = ℕ} 2 0 = rw example_run.1 at (ok 19 (omega arith)) in
      omega arith
