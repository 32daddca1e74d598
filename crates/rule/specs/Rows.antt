-- What the rows of a model in lent memory say: a model of the definition. Every list of rows says one, however damaged.
--   model[p][0]     rule count, first mode, first tally; of process 0 also the process count
--   model[p][1 ..]  the rules: mode, kind, next mode, effect, its number, send count, then twice: receiver, delay, kind, value, its number
use Rattle.std.specs.Prelude.{Bool, ◌&&◌, ◌||◌, List, [], ◌∷◌, ◌++◌, map, ℕ, zero, suc, ◌+◌, leb, ltb, eqb, length, get_or, take, drop}
use Rattle.std.proofs.Math.Option.{Option, none, some}
use Rattle.definition.specs.declared.Effect.{Effect}
use Rattle.definition.specs.declared.Effect.TheVariants.{Keep, Set, Add, AddRead}
use Rattle.definition.specs.declared.Value.{Value}
use Rattle.definition.specs.declared.Value.TheVariants.{Fixed, Tally, Read}
use Rattle.definition.specs.declared.Send.{Send}
use Rattle.definition.specs.declared.Stand.{Stand}
use Rattle.definition.specs.Lists.{all}
use Rattle.definition.specs.Model.{Rule, Setup, Model, ok_model, effect_on}
use Rattle.rule.specs.declared.Decoded.{Decoded}

-- ---- a row and the rule that it says

abbrev pub effect_of : ℕ → ℕ → Effect
effect_of zero n = Keep
effect_of (suc zero) n = Set n
effect_of (suc (suc zero)) n = Add n
effect_of (suc (suc (suc k))) n = AddRead

abbrev pub value_of : ℕ → ℕ → Value
value_of zero n = Fixed n
value_of (suc zero) n = Tally
value_of (suc (suc k)) n = Read

-- the send in the five words from k
abbrev pub send_at : List ℕ → ℕ → Send
send_at r k = record { receiver = get_or r k 0; delay = get_or r (k + 1) 0; kind = get_or r (k + 2) 0; value = value_of (get_or r (k + 3) 0) (get_or r (k + 4) 0) }

-- a row decoded
abbrev pub decoded : List ℕ → Decoded
decoded r =
    record {
      mode = get_or r 0 0;
      kind = get_or r 1 0;
      next = get_or r 2 0;
      effect = effect_of (get_or r 3 0) (get_or r 4 0);
      count = get_or r 5 0;
      first = send_at r 6;
      second = send_at r 11;
    }

-- the words of a rule: 0 where an effect or a value has no number
abbrev pub effect_tag : Effect → ℕ
effect_tag Keep = 0
effect_tag (Set n) = 1
effect_tag (Add n) = 2
effect_tag AddRead = 3

abbrev pub effect_number : Effect → ℕ
effect_number Keep = 0
effect_number (Set n) = n
effect_number (Add n) = n
effect_number AddRead = 0

abbrev pub value_tag : Value → ℕ
value_tag (Fixed n) = 0
value_tag Tally = 1
value_tag Read = 2

abbrev pub value_number : Value → ℕ
value_number (Fixed n) = n
value_number Tally = 0
value_number Read = 0

abbrev pub send_words : Send → List ℕ
send_words s = s.receiver ∷ s.delay ∷ s.kind ∷ value_tag s.value ∷ value_number s.value ∷ []

abbrev pub encoded : Decoded → List ℕ
encoded d = (d.mode ∷ d.kind ∷ d.next ∷ effect_tag d.effect ∷ effect_number d.effect ∷ d.count ∷ []) ++ (send_words d.first ++ send_words d.second)

-- the rule that a decoded row is
abbrev pub rule_of : Decoded → Rule
rule_of d = record { mode = d.mode; kind = d.kind; next = d.next; effect = d.effect; sends = take d.count (d.first ∷ d.second ∷ []) }

-- the rule of a row
abbrev pub rule_at : List ℕ → Rule
rule_at r = rule_of (decoded r)

-- ---- the model

-- word k of a process's first row
abbrev pub heading : List (List ℕ) → ℕ → ℕ
heading rows k = get_or (get_or rows 0 []) k 0

-- the rows of a process that are its rules
abbrev pub rule_rows : List (List ℕ) → List (List ℕ)
rule_rows rows = take (heading rows 0) (drop 1 rows)

abbrev pub rules_of : List (List ℕ) → List Rule
rules_of rows = map rule_at (rule_rows rows)

abbrev pub setup_of : List (List ℕ) → Setup
setup_of rows = record { first = record { mode = heading rows 1; tally = heading rows 2 }; rules = rules_of rows }

-- the process count
abbrev pub processes_of : List (List (List ℕ)) → ℕ
processes_of m = heading (get_or m 0 []) 3

unfoldable pub model_of : List (List (List ℕ)) → Model
model_of m = map setup_of (take (processes_of m) m)

-- ---- one message

-- where a process stands after a message, by the rule that was found; `stands` of Laws says that `read_by` of the definition leaves it there
abbrev pub stand_after : Option Rule → Stand → ℕ → Stand
stand_after none s v = s
stand_after (some r) s v = record { mode = r.next; tally = effect_on r.effect s.tally v }

-- ---- the shape: as many rows as there must be, counts within them, effects and values among those that there are

-- the tag of a value, in the rule's send of this number, counted from 1: it is one of three, or the rule has no such send and the word says nothing
abbrev pub shaped_tag : ℕ → ℕ → ℕ → Bool
shaped_tag tag sends number = leb tag 2 || ltb sends number

abbrev pub shaped_rule : List ℕ → Bool
shaped_rule r = leb (get_or r 3 0) 3 && (leb (get_or r 5 0) 2 && (shaped_tag (get_or r 9 0) (get_or r 5 0) 1 && shaped_tag (get_or r 14 0) (get_or r 5 0) 2))

unfoldable pub shaped_setup : List (List ℕ) → Bool
unfolding all
shaped_setup rows = eqb (length rows) 65 && (leb (heading rows 0) 64 && all shaped_rule (rule_rows rows))

unfoldable pub shaped_model : List (List (List ℕ)) → Bool
unfolding shaped_setup
shaped_model m = eqb (length m) 8 && (leb (processes_of m) 8 && all shaped_setup (take (processes_of m) m))

-- rows that hold an accepted model; any others are refused by 16
unfoldable pub lawful_model : List (List (List ℕ)) → Bool
unfolding shaped_model model_of ok_model
lawful_model m = shaped_model m && ok_model (model_of m)
