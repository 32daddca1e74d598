-- Laws of the rows, for the crates above: a rule put into words and read again is the same; a message leaves a process where `read_by` says;
-- what is known of the rows of an accepted model; in one, a mode or a kind over 7 finds no rule.
use Rattle.std.specs.Prelude.{◌≡◌, Bool, true, false, ◌&&◌, leb, eqb, get_or, take, drop}
use Rattle.std.proofs.Math.Path.{refl}
use Rattle.std.proofs.Common.{ap, ◌∙◌, arith, length-take, get_or-take}
use mathlib.Core.List.{List, [], ◌∷◌}
use Rattle.std.proofs.Math.Option.{Option, none, some}
use Prim.Native.Nat.{ℕ, zero, suc, ◌≤◌, ◌<◌, min}
use Rattle.std.proofs.Math.ListN.{length, get_or-map}
use Rattle.std.proofs.lemmas.List.{length-map}
use borrow.Author.Tests.{eqb-true, leb-true, ne_eqb}
use Rattle.definition.specs.declared.Effect.{Effect}
use Rattle.definition.specs.declared.Effect.TheVariants.{Keep, Set, Add, AddRead}
use Rattle.definition.specs.declared.Value.{Value}
use Rattle.definition.specs.declared.Value.TheVariants.{Fixed, Tally, Read}
use Rattle.definition.specs.declared.Stand.{Stand}
use Rattle.definition.specs.Lists.{all, in_order}
use Rattle.definition.specs.Model.{Rule, Setup, Model, no_setup, setup, ok_rule, ok_stand, ok_setup, ok_model, find, read_by}
use Rattle.laws.specs.Places.{and_true}
use Rattle.rule.specs.declared.Decoded.{Decoded}
use Rattle.rule.specs.Rows.{effect_of, value_of, decoded, effect_tag, effect_number, value_tag, value_number, encoded, heading, rule_rows, setup_of, processes_of, model_of, stand_after, shaped_rule, shaped_setup, shaped_model, lawful_model}

-- ---- a rule and its words

effect_back : (e : Effect) → effect_of (effect_tag e) (effect_number e) ≡ e
effect_back Keep = refl
effect_back (Set n) = refl
effect_back (Add n) = refl
effect_back AddRead = refl

value_back : (v : Value) → value_of (value_tag v) (value_number v) ≡ v
value_back (Fixed n) = refl
value_back Tally = refl
value_back Read = refl

pub decoded_encoded : (d : Decoded) → decoded (encoded d) ≡ d
decoded_encoded d = rw (effect_back d.effect, value_back d.first.value, value_back d.second.value)

-- ---- one message

pub stands : (o : Option Rule) (p t n : ℕ) (s : Stand) (v : ℕ) → (read_by o p t n s v).stand ≡ stand_after o s v
unfolding read_by
stands none p t n s v = refl
stands (some r) p t n s v = refl

-- ---- tests

pub and_false : (a : Bool) → a && false ≡ false
and_false true = refl
and_false false = refl

all_at : {A : Type 0} (f : A → Bool) (l : List A) (d : A) (i : ℕ) → all f l ≡ true → (length l ≤ i → f d ≡ true) → f (get_or l i d) ≡ true
unfolding all
all_at f [] d i e h = h (omega arith)
all_at f (x ∷ l) d zero e h = (and_true (f x) (all f l) e).0
all_at f (x ∷ l) d (suc i) e h = all_at f l d i (and_true (f x) (all f l) e).1 (λ k. h (omega arith))

-- ---- the setup of a process

pub setup_is : (m : List (List (List ℕ))) (p : ℕ) → setup (model_of m) p ≡ setup_of (get_or (take (processes_of m) m) p [])
unfolding model_of
setup_is m p = get_or-map setup_of (take (processes_of m) m) p []

pub setup_at_lem : (m : List (List (List ℕ))) (p : ℕ) → p < processes_of m → setup (model_of m) p ≡ setup_of (get_or m p [])
setup_at_lem m p h = setup_is m p ∙ ap setup_of (get_or-take (processes_of m) m p [] h)

pub model_length : (m : List (List (List ℕ))) → length (model_of m) ≡ min (processes_of m) (length m)
unfolding model_of
model_length m = length-map (take (processes_of m) m) setup_of ∙ length-take (processes_of m) m

-- ---- the rows of an accepted model

-- the rows of one of n processes
pub record LawfulRows (n : ℕ) (rows : List (List ℕ)) : Type 0 where
  pub long : length rows ≡ 65
  pub count : heading rows 0 ≤ 64
  pub rules : length (rule_rows rows) ≡ heading rows 0
  pub tags : all shaped_rule (rule_rows rows) ≡ true
  pub ok : ok_setup n (setup_of rows) ≡ true

pub record Lawful (m : List (List (List ℕ))) : Type 0 where
  pub long : length m ≡ 8
  pub least : 1 ≤ processes_of m
  pub most : processes_of m ≤ 8
  pub count : length (model_of m) ≡ processes_of m
  pub ok : ok_model (model_of m) ≡ true
  pub at : (p : ℕ) → p < processes_of m → LawfulRows (processes_of m) (get_or m p [])

lawful_rows : (n : ℕ) (rows : List (List ℕ)) → shaped_setup rows ≡ true → ok_setup n (setup_of rows) ≡ true → LawfulRows n rows
unfolding shaped_setup
lawful_rows n rows s o =
    let a = and_true (eqb (length rows) 65) _ s in
    let b = and_true (leb (heading rows 0) 64) _ a.1 in
    let long : length rows ≡ 65 = eqb-true _ _ a.0 in
    let count : heading rows 0 ≤ 64 = leb-true _ _ b.0 in
    let rules : length (rule_rows rows) ≡ heading rows 0 = rows_length rows (heading rows 0) (omega arith) in
    record {
      long = long;
      count = count;
      rules = rules;
      tags = b.1;
      ok = o;
    }
  where
    rows_length : (rows : List (List ℕ)) (k : ℕ) → k < length rows → length (take k (drop 1 rows)) ≡ k
    rows_length [] k h = absurd (omega arith)
    rows_length (x ∷ l) k h = rw length-take (omega arith)

pub lawful_model_lem : (m : List (List (List ℕ))) → lawful_model m ≡ true → Lawful m
unfolding lawful_model shaped_model model_of ok_model
lawful_model_lem m e =
    let n : ℕ = processes_of m in
    let s = and_true (shaped_model m) (ok_model (model_of m)) e in
    let a = and_true (eqb (length m) 8) _ s.0 in
    let b = and_true (leb n 8) _ a.1 in
    let long : length m ≡ 8 = eqb-true _ _ a.0 in
    let most : n ≤ 8 = leb-true _ _ b.0 in
    let rows : length (take n m) ≡ n = rw length-take (omega arith) in
    let count : length (model_of m) ≡ n = omega (arith, model_length m) in
    let u = and_true (leb 1 (length (model_of m))) _ s.1 in
    let v = and_true (leb (length (model_of m)) 8) _ u.1 in
    record {
      long = long;
      least = omega (arith, leb-true 1 (length (model_of m)) u.0, count);
      most = most;
      count = count;
      ok = s.1;
      at = λ p h. lawful_rows n (get_or m p [])
          (rw (get_or-take n m p [] h) at (all_at shaped_setup (take n m) [] p b.1 (λ k. absurd (omega arith))))
          (rw (count, setup_at_lem m p h) at (all_at (ok_setup (length (model_of m))) (model_of m) no_setup p v.1 (λ k. absurd (omega arith))));
    }

-- ---- "a mode or kind over 7 finds no rule"

module _ (M : Model) (e : ok_model M ≡ true) (p mode kind : ℕ) where
  rules_ok : all (ok_rule (length M)) (setup M p).rules ≡ true
  unfolding ok_model ok_setup all in_order
  rules_ok =
      let n : ℕ = length M in
      let u : Setup = setup M p in
      let o = all_at (ok_setup n) M no_setup p (and_true (leb n 8) _ (and_true (leb 1 n) _ e).1).1 (λ k. refl) in
      (and_true (all (ok_rule n) u.rules) _ (and_true (leb (length u.rules) 64) _ (and_true (ok_stand u.first) _ o).1).1).0

  none_found : (rs : List Rule) → all (ok_rule (length M)) rs ≡ true → ((r : Rule) → ok_rule (length M) r ≡ true → eqb r.mode mode && eqb r.kind kind ≡ false) → find rs mode kind ≡ none
  unfolding all find
  none_found [] o h = refl
  none_found (r ∷ rs) o h = let w = and_true (ok_rule (length M) r) (all (ok_rule (length M)) rs) o in rw (h r w.0) (none_found rs w.1 h)

  mode_within : (r : Rule) → ok_rule (length M) r ≡ true → r.mode ≤ 7
  unfolding ok_rule
  mode_within r o = leb-true r.mode 7 (and_true (leb r.mode 7) _ o).0

  kind_within : (r : Rule) → ok_rule (length M) r ≡ true → r.kind ≤ 7
  unfolding ok_rule
  kind_within r o = leb-true r.kind 7 (and_true (leb r.kind 7) _ (and_true (leb r.mode 7) _ o).1).0

  pub no_mode : 7 < mode → find (setup M p).rules mode kind ≡ none
  no_mode h = none_found (setup M p).rules rules_ok (λ r o. rw (ne_eqb r.mode mode (λ d. omega (arith, mode_within r o))))

  pub no_kind : 7 < kind → find (setup M p).rules mode kind ≡ none
  no_kind h = none_found (setup M p).rules rules_ok (λ r o. rw (ne_eqb r.kind kind (λ d. omega (arith, kind_within r o))) (and_false (eqb r.mode mode)))
