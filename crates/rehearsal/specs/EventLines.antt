-- The lines of a text, and those among them that tell an event: the text is split at each newline, the lines that begin with the word "event" are
-- kept, and joined again with their newlines. Nothing here knows how the text came about. Of the lines that the program prints, an event's is kept
-- and every other left out, since no name, word or number holds a newline.
use Rattle.std.specs.Prelude.{◌≡◌, refl, Bool, true, false, cond, not, ◌&&◌, List, [], ◌∷◌, ◌++◌, ℕ, zero, suc, ◌+◌, ◌/◌, ◌%◌, ltb, eqb}
use Rattle.std.proofs.Common.{ap, ◌∙◌, append_assoc, arith, ne_eqb}
use Rattle.std.proofs.lemmas.Bool.{not-true}
use Rattle.definition.specs.Answer.{Answer, Refused, Started, Injected, Delivered, Executed, Advanced}
use Rattle.definition.specs.declared.Call.{Call}
use Rattle.definition.specs.declared.Call.TheVariants.{Inject, Deliver, Execute, Advance}
use Rattle.definition.specs.declared.Event.{Event}
use Rattle.definition.specs.Lists.{keep, all}
use Rattle.definition.specs.Program.{digits, spaced, spaced_all, event_text, refused_text, at_text, ok_text, model_text, newline, fault_line, model_line, named, answered, event_lines, call_lines}
use Rattle.definition.specs.Calls.{Result}
use Rattle.laws.specs.Places.{and_true, true_and}
use Rattle.text.specs.declared.Part.{Part}
use Rattle.text.specs.declared.Part.TheVariants.{File, Model, Call as CallPart}
use Rattle.text.specs.Part.{part_text}

-- ---- the lines of a text

-- a byte before the first line
abbrev pub longer : ℕ → List (List ℕ) → List (List ℕ)
longer b [] = (b ∷ []) ∷ []
longer b (l ∷ ls) = (b ∷ l) ∷ ls

-- split at each newline
unfoldable pub lines_in : List ℕ → List (List ℕ)
lines_in [] = []
lines_in (b ∷ bs) = cond (eqb b 10) ([] ∷ lines_in bs) (longer b (lines_in bs))

-- joined, each with a newline
unfoldable pub joined : List (List ℕ) → List ℕ
joined [] = []
joined (l ∷ ls) = l ++ (newline ++ joined ls)

-- begins with a word
unfoldable pub begins : List ℕ → List ℕ → Bool
begins [] l = true
begins (a ∷ word) [] = false
begins (a ∷ word) (b ∷ l) = eqb a b && begins word l

-- the lines that begin with "event"
unfoldable pub event_lines_in : List ℕ → List ℕ
unfolding keep lines_in joined begins
event_lines_in text = joined (keep (begins event_text) (lines_in text))

-- ---- no newline in it

abbrev plain : ℕ → Bool
plain b = not (eqb b 10)

abbrev Plain : List ℕ → Type 0
Plain l = all plain l ≡ true

plain_append : (l r : List ℕ) → Plain l → Plain r → Plain (l ++ r)
unfolding all
plain_append [] r h k = k
plain_append (b ∷ l) r h k = let a = and_true (plain b) (all plain l) h in true_and a.0 (plain_append l r a.1 k)

-- a digit
plain_digit : (k : ℕ) → Plain ((48 + k) ∷ [])
unfolding all
plain_digit k = rw (ne_eqb (48 + k) 10 (λ e. omega arith))

plain_digits : (n k : ℕ) → Plain (digits n k)
unfolding digits
plain_digits zero k = plain_digit k
plain_digits (suc n) k = go (ltb k 10) (plain_digits n (k / 10))
  where
    go : (b : Bool) → Plain (digits n (k / 10)) → Plain (cond b ((48 + k) ∷ []) (digits n (k / 10) ++ ((48 + k % 10) ∷ [])))
    go true h = plain_digit k
    go false h = plain_append (digits n (k / 10)) ((48 + k % 10) ∷ []) h (plain_digit (k % 10))

plain_spaced : (k : ℕ) → Plain (spaced k)
unfolding spaced all
plain_spaced k = plain_digits 9 k

plain_spaced_all : (ks : List ℕ) → Plain (spaced_all ks)
unfolding spaced_all all
plain_spaced_all [] = refl
plain_spaced_all (k ∷ ks) = plain_append (spaced k) (spaced_all ks) (plain_spaced k) (plain_spaced_all ks)

plain_named : (c : Call) → Plain (named c)
unfolding named all
plain_named (Inject number receiver time kind value) = plain_spaced number
plain_named (Deliver place) = plain_spaced place
plain_named (Execute process) = plain_spaced process
plain_named (Advance ceiling room) = plain_spaced ceiling

plain_answered : (a : Answer) → Plain (answered a)
unfolding answered all
plain_answered (Refused n) = plain_spaced n
plain_answered Started = refl
plain_answered Injected = refl
plain_answered (Delivered undone cancelled) = plain_spaced_all (undone ∷ cancelled ∷ [])
plain_answered (Executed time read sent) = plain_spaced_all (time ∷ read ∷ sent ∷ [])
plain_answered (Advanced horizon entries bytes) = plain_spaced_all (horizon ∷ entries ∷ [])

plain_part : (p : Part) → Plain (part_text p)
unfolding all
plain_part File = refl
plain_part Model = refl
plain_part CallPart = refl

-- ---- it begins otherwise

other_named : (c : Call) (l : List ℕ) → begins event_text (named c ++ l) ≡ false
unfolding begins named
other_named (Inject number receiver time kind value) l = refl
other_named (Deliver place) l = refl
other_named (Execute process) l = refl
other_named (Advance ceiling room) l = refl

other_part : (p : Part) (l : List ℕ) → begins event_text (part_text p ++ l) ≡ false
unfolding begins
other_part File l = refl
other_part Model l = refl
other_part CallPart l = refl

-- ---- one line, and the rest

no_lines : event_lines_in [] ≡ []
unfolding event_lines_in
no_lines = refl

-- a line is split off at its newline
lines_first : (l rest : List ℕ) → Plain l → lines_in (l ++ (newline ++ rest)) ≡ l ∷ lines_in rest
unfolding lines_in all
lines_first [] rest h = refl
lines_first (b ∷ l) rest h = let a = and_true (plain b) (all plain l) h in rw (not-true (eqb b 10) a.0, lines_first l rest a.1)

module _ (l rest : List ℕ) (h : Plain l) where
  line_kept : begins event_text l ≡ true → event_lines_in (l ++ (newline ++ rest)) ≡ l ++ (newline ++ event_lines_in rest)
  unfolding event_lines_in
  line_kept e = rw (lines_first l rest h, e)

  line_left_out : begins event_text l ≡ false → event_lines_in (l ++ (newline ++ rest)) ≡ event_lines_in rest
  unfolding event_lines_in
  line_left_out e = rw (lines_first l rest h, e)

-- ---- the lines that the program prints

-- a fault's line, which is the last
pub fault_events : (p : Part) (n at : ℕ) → event_lines_in (fault_line (part_text p) n at) ≡ []
unfolding fault_line all
fault_events p n at =
    let said = refused_text ++ (spaced n ++ (at_text ++ spaced at)) in
    let plain-said : Plain said = plain_append (spaced n) (at_text ++ spaced at) (plain_spaced n) (plain_spaced at) in
    ap event_lines_in (simp append_assoc) ∙ line_left_out (part_text p ++ said) [] (plain_append (part_text p) said (plain_part p) plain-said) (other_part p said) ∙ no_lines

-- the line of a model
pub model_events : (n : ℕ) (rest : List ℕ) → event_lines_in (model_line n ++ rest) ≡ event_lines_in rest
unfolding model_line all
model_events n rest = ap event_lines_in (simp append_assoc) ∙ line_left_out (model_text ++ (ok_text ++ spaced n)) rest (plain_spaced n) (other_part Model (ok_text ++ spaced n))

-- the lines of events
pub event_events : (es : List Event) (rest : List ℕ) → event_lines_in (event_lines es ++ rest) ≡ event_lines es ++ event_lines_in rest
unfolding event_lines begins all
event_events [] rest = refl
event_events (e ∷ es) rest =
    let numbers = e.time ∷ e.process ∷ e.read ∷ e.stand.mode ∷ e.stand.tally ∷ [] in
    ap event_lines_in (simp append_assoc) ∙ line_kept (event_text ++ spaced_all numbers) (event_lines es ++ rest) (plain_spaced_all numbers) refl
    ∙ ap (λ (l : List ℕ). (event_text ++ spaced_all numbers) ++ (newline ++ l)) (event_events es rest) ∙ simp append_assoc

-- a call's line, and those of the events that it commits
pub call_events : (c : Call) (r : Result) (rest : List ℕ) → event_lines_in (call_lines c r ++ rest) ≡ event_lines r.events ++ event_lines_in rest
unfolding call_lines
call_events c r rest =
    let said = answered r.answer in
    ap event_lines_in (simp append_assoc)
    ∙ line_left_out (named c ++ said) (event_lines r.events ++ rest) (plain_append (named c) said (plain_named c) (plain_answered r.answer)) (other_named c said)
    ∙ event_events r.events rest
