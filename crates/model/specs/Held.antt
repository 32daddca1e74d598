-- The rows that the reader leaves hold the model that it read, and are lawful: the law that the promise of `read` cites.
use Rattle.std.specs.Prelude.{◌≡◌, Bool, true, false, ℕ, zero, suc, ◌+◌, ◌≤◌, ◌<◌, leb, get_or, take, set}
use Rattle.std.proofs.Math.Path.{refl, ap}
use Rattle.std.proofs.Common.{sym, ap₂, ◌∙◌, arith, eqb-true, eq-eqb, leb-true, le-leb, get_or-set_same, take_at}
use mathlib.Core.List.{List, [], ◌∷◌, ◌++◌, map}
use Rattle.std.proofs.Math.ListN.{length, drop, length-set}
use Rattle.std.proofs.lemmas.List.{length-map}
use Rattle.std.proofs.lemmas.List.Edits.{sets, sets-eq}
use Rattle.std.proofs.Math.Seq.{length-sets, drop-cons, get_or-set_other}
use Rattle.definition.specs.declared.Effect.{Effect}
use Rattle.definition.specs.declared.Effect.TheVariants.{Keep, Set, Add, AddRead}
use Rattle.definition.specs.declared.Value.{Value}
use Rattle.definition.specs.declared.Value.TheVariants.{Fixed, Tally, Read}
use Rattle.definition.specs.declared.Send.{Send}
use Rattle.definition.specs.Lists.{all}
use Rattle.definition.specs.Model.{Rule, Setup, Model, ok_effect, ok_stand, ok_rule, ok_setup, ok_model}
use Rattle.laws.specs.Places.{and_true}
use Rattle.rule.specs.Rows.{decoded, encoded, effect_tag, value_tag, rule_of, heading, setup_of, processes_of, model_of, shaped_rule, shaped_setup, shaped_model, lawful_model}
use Rattle.rule.specs.Laws.{decoded_encoded}
use Rattle.rulebytes.specs.Reading.{rowed}
use Rattle.model.specs.Stored.{puts, put_rule, headed, put_setup, put_process, put_model, is_full, has_room}

every : {A : Type 0} (f : A → Bool) (x : A) (l : List A) → all f (x ∷ l) ≡ true → (f x ≡ true) × (all f l ≡ true)
unfolding all
every f x l h = and_true (f x) (all f l) h

-- ---- a rule

sends_back : (r : Rule) → length r.sends ≤ 2 → rule_of (rowed r) ≡ r
sends_back r h = go r.sends h
  where
    go : (ss : List Send) → length ss ≤ 2 → rule_of (rowed (record { mode = r.mode; kind = r.kind; next = r.next; effect = r.effect; sends = ss })) ≡ record { mode = r.mode; kind = r.kind; next = r.next; effect = r.effect; sends = ss }
    go [] l = refl
    go (a ∷ []) l = refl
    go (a ∷ b ∷ []) l = refl
    go (a ∷ b ∷ d ∷ ss) l = absurd (omega arith)

row : Rule → List ℕ
row r = encoded (rowed r)

rule_back : (n : ℕ) (r : Rule) → ok_rule n r ≡ true → (rule_of (decoded (row r)) ≡ r) × (shaped_rule (row r) ≡ true)
unfolding ok_rule row
rule_back n r h =
    let few : leb (length r.sends) 2 ≡ true =
    (and_true (leb (length r.sends) 2) _ (and_true (ok_effect r.effect) _ (and_true (leb r.next 7) _ (and_true (leb r.kind 7) _ (and_true (leb r.mode 7) _ h).1).1).1).1).0 in (
      ap rule_of (decoded_encoded (rowed r)) ∙ sends_back r (leb-true _ _ few),
      rw (effect_small r.effect, few, value_small (rowed r).first.value, value_small (rowed r).second.value),
    )
  where
    effect_small : (e : Effect) → leb (effect_tag e) 3 ≡ true
    effect_small Keep = refl
    effect_small (Set k) = refl
    effect_small (Add k) = refl
    effect_small AddRead = refl

    value_small : (v : Value) → leb (value_tag v) 2 ≡ true
    value_small (Fixed k) = refl
    value_small Tally = refl
    value_small Read = refl

rules_back : (n : ℕ) (rs : List Rule) → all (ok_rule n) rs ≡ true → (map (λ (x : List ℕ). rule_of (decoded x)) (map row rs) ≡ rs) × (all shaped_rule (map row rs) ≡ true)
unfolding all
rules_back n [] h = (refl, refl)
rules_back n (r ∷ rs) h =
    let one = rule_back n r (every (ok_rule n) r rs h).0 in
    let rest = rules_back n rs (every (ok_rule n) r rs h).1 in
    (ap₂ ◌∷◌ one.0 rest.0, rw (one.1, rest.1))

-- ---- a process

puts_rules : (i : ℕ) (rs : List Rule) (rows : List (List ℕ)) → puts put_rule i rs rows ≡ sets rows (suc i) (map row rs)
unfolding puts row
puts_rules i [] rows = refl
puts_rules i (r ∷ rs) rows = puts_rules (suc i) rs (set rows (suc i) (row r))

-- its rows: the first, those of its rules, and what stood behind them
setup_rows : (n : ℕ) (u : Setup) (rows : List (List ℕ)) → suc (length u.rules) ≤ length rows
    → put_setup n u rows ≡ headed (length u.rules) u.first.mode u.first.tally n ∷ (map row u.rules ++ drop (suc (length u.rules)) rows)
setup_rows n u [] h = absurd (omega arith)
setup_rows n u (x ∷ rows) h =
    let tail : 1 + length (map row u.rules) ≡ suc (length u.rules) = rw (length-map u.rules) (omega arith) in
    let all : puts put_rule 0 u.rules (x ∷ rows) ≡ x ∷ (map row u.rules ++ drop (suc (length u.rules)) (x ∷ rows)) =
    puts_rules 0 u.rules (x ∷ rows) ∙ sets-eq (map row u.rules) (x ∷ rows) 1 (rw tail h)
    ∙ ap (λ (k : ℕ). x ∷ (map row u.rules ++ drop k (x ∷ rows))) tail in
    ap (λ (l : List (List ℕ)). set l 0 (headed (length u.rules) u.first.mode u.first.tally n)) all

setup_back : (k n : ℕ) (u : Setup) (rows : List (List ℕ)) → ok_setup k u ≡ true → length rows ≡ 65
    → (setup_of (put_setup n u rows) ≡ u) × (shaped_setup (put_setup n u rows) ≡ true) × (heading (put_setup n u rows) 3 ≡ n)
unfolding ok_setup shaped_setup
setup_back k n u rows h l =
    let fields = and_true (leb (length u.rules) 64) _ (and_true (ok_stand u.first) _ h).1 in
    let few : length u.rules ≤ 64 = leb-true _ _ fields.0 in
    let back = rules_back k u.rules (and_true (all (ok_rule k) u.rules) _ fields.1).0 in
    let e = setup_rows n u rows (omega arith) in
    let mine : take (length u.rules) (map row u.rules ++ drop (suc (length u.rules)) rows) ≡ map row u.rules =
    take_at (map row u.rules) (drop (suc (length u.rules)) rows) (length u.rules) (length-map u.rules row) in
    let long : length (put_setup n u rows) ≡ 65 =
    length-set (puts put_rule 0 u.rules rows) 0 (headed (length u.rules) u.first.mode u.first.tally n)
    ∙ ap length (puts_rules 0 u.rules rows) ∙ length-sets rows 1 (map row u.rules) ∙ l in
    let full : length (headed (length u.rules) u.first.mode u.first.tally n ∷ (map row u.rules ++ drop (suc (length u.rules)) rows)) ≡ 65 = ap length (sym e) ∙ long in (
      rw (e, mine) (ap (λ (rs : List Rule). record { first = u.first; rules = rs }) back.0),
      rw (e, eq-eqb _ _ full, le-leb _ _ few, mine) back.1,
      rw e,
    )

-- ---- the model

module _ (n : ℕ) where
  keeps : (q : ℕ) (us : Model) (m : List (List (List ℕ))) (p : ℕ) → p < q → get_or (puts (put_process n) q us m) p [] ≡ get_or m p []
  unfolding puts
  keeps q [] m p h = refl
  keeps q (u ∷ us) m p h =
      keeps (suc q) us (put_process n q u m) p (omega arith) ∙ get_or-set_other m q p (put_setup n u (get_or m q [])) [] (λ e. omega arith)

  as_many : (q : ℕ) (us : Model) (m : List (List (List ℕ))) → length (puts (put_process n) q us m) ≡ length m
  unfolding puts
  as_many q [] m = refl
  as_many q (u ∷ us) m = as_many (suc q) us (put_process n q u m) ∙ length-set m q (put_setup n u (get_or m q []))

  first_is : (q : ℕ) (u : Setup) (us : Model) (m : List (List (List ℕ))) → q < length m
      → get_or (puts (put_process n) (suc q) us (put_process n q u m)) q [] ≡ put_setup n u (get_or m q [])
  first_is q u us m h = keeps (suc q) us (put_process n q u m) q (omega arith) ∙ get_or-set_same m q (put_setup n u (get_or m q [])) [] h

  models_back : (k q : ℕ) (us : Model) (m : List (List (List ℕ))) → q + length us ≤ length m
      → ((i : ℕ) → q ≤ i → i < length m → length (get_or m i []) ≡ 65) → all (ok_setup k) us ≡ true
      → (map setup_of (take (length us) (drop q (puts (put_process n) q us m))) ≡ us) × (all shaped_setup (take (length us) (drop q (puts (put_process n) q us m))) ≡ true)
  unfolding puts all
  models_back k q [] m h f o = (refl, refl)
  models_back k q (u ∷ us) m h f o =
      let m' : List (List (List ℕ)) = put_process n q u m in
      let size : length m' ≡ length m = length-set m q (put_setup n u (get_or m q [])) in
      let rest = models_back k (suc q) us m' (omega arith)
      (λ i l b. ap length (get_or-set_other m q i (put_setup n u (get_or m q [])) [] (λ e. omega arith)) ∙ f i (omega arith) (omega arith)) (every (ok_setup k) u us o).1 in
      let one = setup_back k n u (get_or m q []) (every (ok_setup k) u us o).0 (f q (omega arith) (omega arith)) in
      let split : drop q (puts (put_process n) (suc q) us m') ≡ put_setup n u (get_or m q []) ∷ drop (suc q) (puts (put_process n) (suc q) us m') =
      drop-cons (puts (put_process n) (suc q) us m') q [] (omega (arith, as_many (suc q) us m'))
      ∙ ap (λ (x : List (List ℕ)). x ∷ drop (suc q) (puts (put_process n) (suc q) us m')) (first_is q u us m (omega arith)) in
      (rw split (ap₂ ◌∷◌ one.0 rest.0), rw (split, one.1) rest.1)

full_at : (m : List (List (List ℕ))) → all is_full m ≡ true → (i : ℕ) → i < length m → length (get_or m i []) ≡ 65
unfolding all
full_at [] h i l = absurd (omega arith)
full_at (x ∷ m) h zero l = eqb-true _ _ (every is_full x m h).0
full_at (x ∷ m) h (suc i) l = full_at m (every is_full x m h).1 i (omega arith)

-- the rows hold the model, and are lawful
pub held : (M : Model) (m : List (List (List ℕ))) → has_room m ≡ true → ok_model M ≡ true → (model_of (put_model M m) ≡ M) × (lawful_model (put_model M m) ≡ true)
unfolding all has_room ok_model model_of lawful_model shaped_model puts
held [] m r o = let no : false ≡ true = o in let z : ◌≡◌ {A = ℕ} 0 1 = cc in absurd (omega arith)
held (u ∷ us) m r o =
    let M : Model = u ∷ us in
    let n : ℕ = length M in
    let eight : length m ≡ 8 = eqb-true _ _ (and_true (all is_full m) _ r).1 in
    let few : n ≤ 8 = leb-true _ _ (and_true (leb n 8) _ (and_true (leb 1 n) _ o).1).0 in
    let oks : all (ok_setup n) M ≡ true = (and_true (leb n 8) _ (and_true (leb 1 n) _ o).1).1 in
    let f : (i : ℕ) → i < length m → length (get_or m i []) ≡ 65 = full_at m (and_true (all is_full m) _ r).0 in
    let back = models_back n n 0 M m (omega arith) (λ i l b. f i b) oks in
    let count : processes_of (put_model M m) ≡ n =
    ap (λ (x : List (List ℕ)). heading x 3) (first_is n 0 u us m (omega arith)) ∙ (setup_back n n u (get_or m 0 []) (every (ok_setup n) u us oks).0 (f 0 (omega arith))).2 in
    let is : model_of (put_model M m) ≡ M = rw count back.0 in
    (is, rw (eq-eqb _ _ (as_many n 0 M m ∙ eight), count, le-leb n 8 few, back.1, back.0) o)
