-- Where the rules of a process stand, and what is done with what was found among them.
use mathlib.Core.Path.{◌≡◌, ap, ◌∙◌}
use mathlib.Core.List.{List, []}
use Rattle.std.proofs.Math.Option as Math
use Prim.Native.Nat.{ℕ, ◌≤◌, ◌<◌, min}
use native.Mathlib.Omega.{arith}
use lib.ListN.{length, get_or, take, length-take, get_or-eq_default}
use lib.Seq.{get_or-take}
use Rattle.definition.specs.declared.Stand.{Stand}
use Rattle.definition.specs.Model.{Rule, setup, find, effect_on}
use Rattle.rule.specs.Rows.{rule_rows, processes_of, model_of, stand_after}
use Rattle.std.specs.Prelude.{Option, Some, None, MatchOption}
use Rattle.rule.specs.declared.Decoded.{Decoded}
use Rattle.found.specs.Search.{found_among, found_of}
use Rattle.answer.specs.Search.{found_for, finds}

module _ (m : List (List (List ℕ))) (p mode kind : ℕ) where
  -- none past the model; else among the rows of the process
  pub found_past : min (processes_of m) (length m) ≤ p → None ≡ found_for m p mode kind
  unfolding found_for found_among
  found_past h =
      let past : length (take (processes_of m) m) ≤ p = omega (arith, length-take (processes_of m) m) in
      rw (get_or-eq_default (take (processes_of m) m) [] past)

  pub found_at : p < processes_of m → found_among (rule_rows (get_or m p [])) mode kind ≡ found_for m p mode kind
  unfolding found_for
  found_at h = rw (get_or-take (processes_of m) m p [] h)

  -- one message: o is what is found for it; P is what the call for a rule promises of it
  pub stood : (o : Option Decoded) (s r : Stand) (v : ℕ) (P : Decoded → Type 0) → o ≡ found_for m p mode kind → MatchOption o (r ≡ s) P → ((d : Decoded) → P d → r ≡ record { mode = d.next; tally = effect_on d.effect s.tally v }) → r ≡ stand_after (find (setup (model_of m) p).rules mode kind) s v
  stood o s r v P e h k = by_rule o h ∙ ap (λ (x : Math.Option Rule). stand_after x s v) (ap found_of e ∙ finds m p mode kind)
    where
      by_rule : (o : Option Decoded) → MatchOption o (r ≡ s) P → r ≡ stand_after (found_of o) s v
      by_rule None h = h
      by_rule (Some d) h = k d h
