-- The loop over the rules of a process, and the loop over the processes, in the words of `Loops`.
use Rattle.std.specs.Prelude.{◌≡◌, List, [], ◌∷◌, ℕ, suc, ◌+◌, ◌-◌, ◌<◌, ◌≤◌, length, set, Result}
use Rattle.std.proofs.Common.{sym, ap, ◌∙◌, arith, add-one}
use Rattle.std.proofs.Math.ListN.{length-set}
use Rattle.definition.specs.declared.refusal.Fault.{Fault as Refused_at}
use Rattle.definition.specs.Model.{Rule, Setup}
use Rattle.definition.specs.ModelBytes.{Parsed, Got, Fault, and_then, mapped, rule_at, rules_at, setup_at, setups_at}
use Rattle.rule.specs.declared.Decoded.{Decoded}
use Rattle.rule.specs.Rows.{encoded}
use Rattle.field.specs.Gives.{given}
use Rattle.rulebytes.specs.Accepted.{rule_in_lem}
use Rattle.rulebytes.specs.Reading.{rowed}
use Rattle.model.specs.Stored.{put_rule, put_process, Reads}
use Rattle.model.proofs.Steps.{made, made_fault}
use Rattle.model.proofs.Loops.{Going, turn}

module _ (bs : List ℕ) (highest : ℕ) where
  pub kind_small : (m k at : ℕ) {d : Decoded} {next : ℕ} → mapped rowed (rule_at bs highest m k at) ≡ Got d next → d.kind ≤ 7
  kind_small m k at {d} e =
      let w = made rowed (rule_at bs highest m k at) e in
      rw (← w.2) (given (rw w.1 at (rule_in_lem bs highest m k at))).0.3

  more_rules : (m k count done at : ℕ) → done < count
      → rules_at bs highest m k (count - done) at
      ≡ and_then (rule_at bs highest m k at) (λ r next. mapped (λ (rs : List Rule). r ∷ rs) (rules_at bs highest r.mode (suc r.kind) (count - suc done) next))
  unfolding rules_at
  more_rules m k count done at h = let e : count - done ≡ suc (count - suc done) = omega arith in rw e

  pub rules_fault : (m k count done at : ℕ) {n o : ℕ} → done < count → mapped rowed (rule_at bs highest m k at) ≡ Fault n o
      → rules_at bs highest m k (count - done) at ≡ Fault n o
  rules_fault m k count done at h e = more_rules m k count done at h ∙ rw (made_fault rowed (rule_at bs highest m k at) e)

  pub rules_end : (m k count at : ℕ) → rules_at bs highest m k (count - count) at ≡ Got [] at
  unfolding rules_at
  rules_end m k count at = let e : count - count ≡ 0 = omega arith in rw e

  pub rules_turn : {p : Parsed (List Rule)} {before rows : List (List ℕ)} (m k count done at : ℕ) → done < count
      → Going put_rule p before done (rules_at bs highest m k (count - done) at) rows → {d : Decoded} {next : ℕ}
      → mapped rowed (rule_at bs highest m k at) ≡ Got d next → {after : List (List ℕ)} → after ≡ set rows (done + 1) (encoded d)
      → Going put_rule p before (done + 1) (rules_at bs highest d.mode (d.kind + 1) (count - (done + 1)) next) after
  rules_turn {rows = rows} m k count done at h g {d} {next} e {after} s =
      let w = made rowed (rule_at bs highest m k at) e in
      rw (add-one done, ← w.2, add-one w.0.kind)
      (turn g (rule_at bs highest m k at) (λ r n. rules_at bs highest r.mode (suc r.kind) (count - suc done) n) w.0 next after
      (more_rules m k count done at h) w.1
      (s ∙ rw (add-one done) (ap (λ (x : Decoded). set rows (suc done) (encoded x)) (sym w.2))) (rw s (length-set rows (done + 1) (encoded d))))

  more_setups : (count done at : ℕ) → done < count
      → setups_at bs highest (count - done) at
      ≡ and_then (setup_at bs highest at) (λ u next. mapped (λ (us : List Setup). u ∷ us) (setups_at bs highest (count - suc done) next))
  unfolding setups_at
  more_setups count done at h = let e : count - done ≡ suc (count - suc done) = omega arith in rw e

  pub setups_fault : (count done at : ℕ) {n o : ℕ} → done < count → mapped (λ (u : Setup). length u.rules) (setup_at bs highest at) ≡ Fault n o
      → setups_at bs highest (count - done) at ≡ Fault n o
  setups_fault count done at h e = more_setups count done at h ∙ rw (made_fault (λ (u : Setup). length u.rules) (setup_at bs highest at) e)

  pub setups_end : (count at : ℕ) → setups_at bs highest (count - count) at ≡ Got [] at
  unfolding setups_at
  setups_end count at = let e : count - count ≡ 0 = omega arith in rw e

  pub setups_turn : {p : Parsed (List Setup)} {before rows : List (List (List ℕ))} (count done at processes : ℕ) → done < count
      → Going (put_process processes) p before done (setups_at bs highest (count - done) at) rows → {after : List (List (List ℕ))} {r : Result (ℕ × ℕ) Refused_at} {v next : ℕ}
      → Reads (λ (u : Setup). length u.rules) (put_process processes done) (setup_at bs highest at) rows after r → mapped (λ (u : Setup). length u.rules) (setup_at bs highest at) ≡ Got v next
      → Going (put_process processes) p before (done + 1) (setups_at bs highest (count - (done + 1)) next) after
  setups_turn count done at processes h g {after} {r} {v} {next} f e =
      let w = made (λ (u : Setup). length u.rules) (setup_at bs highest at) e in
      rw (add-one done)
      (turn g (setup_at bs highest at) (λ u n. setups_at bs highest (count - suc done) n) w.0 next after
      (more_setups count done at h) w.1 (f.stored w.0 next w.1) f.kept)
