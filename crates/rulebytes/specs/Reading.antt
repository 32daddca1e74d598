-- The rule of the definition as it is decoded in a row, where words that a rule does not need are 0; and the part of a rule that is read last.
use Rattle.std.specs.Prelude.{◌≡◌, List, ℕ, length, get_or, Result}
use Rattle.definition.specs.declared.Value.TheVariants.{Fixed}
use Rattle.definition.specs.declared.Send.{Send}
use Rattle.definition.specs.declared.refusal.Fault.{Fault as Refused_at}
use Rattle.definition.specs.Answer.{parsed, one_parsed}
use Rattle.definition.specs.Model.{Rule}
use Rattle.definition.specs.ModelBytes.{Parsed, Got, and_then, field, effect_at, sends_at}
use Rattle.rule.specs.declared.Decoded.{Decoded}

-- an answer is settled by what it says
pub one_answer : (r s : Result (Decoded × ℕ) Refused_at) → parsed r ≡ parsed s → r ≡ s
one_answer = one_parsed

-- a send that is not there
abbrev pub no_send : Send
no_send = record { receiver = 0; delay = 0; kind = 0; value = Fixed 0 }

abbrev pub rowed : Rule → Decoded
rowed r =
    record {
      mode = r.mode;
      kind = r.kind;
      next = r.next;
      effect = r.effect;
      count = length r.sends;
      first = get_or r.sends 0 no_send;
      second = get_or r.sends 1 no_send;
    }

-- the rule with these sends
abbrev pub sending : Decoded → List Send → Rule
sending d ss = record { mode = d.mode; kind = d.kind; next = d.next; effect = d.effect; sends = ss }

-- what stands after a rule's mode and kind
unfoldable pub rule_after : List ℕ → ℕ → ℕ → ℕ → ℕ → Parsed Rule
unfolding effect_at sends_at
rule_after bs highest mode kind at =
    and_then (field bs 0 7 at) (λ after next.
    and_then (effect_at bs next) (λ effect next.
    and_then (field bs 0 2 next) (λ count next.
    and_then (sends_at bs highest count next) (λ sends next.
    Got (record { mode = mode; kind = kind; next = after; effect = effect; sends = sends }) next))))
