-- The check of a model in the order in which its rows are read: one row, the row before the next, the rows of one process. The laws below it say
-- that this is the definition's `ok_model`, with the shape.
use Rattle.std.specs.Prelude.{◌≡◌, Bool, ◌&&◌, take}
use Rattle.std.proofs.Math.Path.{refl, sym, ap}
use Rattle.std.proofs.Common.{◌∙◌, arith, length-take, length-drop}
use Rattle.std.proofs.Math.Bool.{true, false}
use mathlib.Core.List.{List, [], ◌∷◌, map}
use Prim.Native.Nat.{ℕ, ◌≤◌, ◌<◌}
use Rattle.std.proofs.Math.ListN.{length}
use Rattle.std.proofs.lemmas.List.{length-map}
use borrow.Author.Tests.{le-leb, lt-leb, eq-eqb, ne_eqb}
use Rattle.definition.specs.Lists.{all, in_order, is_less, compare}
use Rattle.definition.specs.Model.{rule_key, ok_rule, ok_setup, ok_model}
use Rattle.laws.specs.Walks.{walked}
use Rattle.rule.specs.Rows.{rule_at, heading, rule_rows, setup_of, processes_of, model_of, shaped_rule, shaped_setup, shaped_model, lawful_model}
use Rattle.rule.specs.Laws.{and_false, model_length}

abbrev pub ok_row : ℕ → List ℕ → Bool
ok_row n r = shaped_rule r && ok_rule n (rule_at r)

-- a walk over the rows as they stand (crate `laws`): each passes the test, and stands before the next by mode, then kind
abbrev pub itself : List ℕ → List ℕ
itself r = r

abbrev pub row_key : List ℕ → List ℕ
row_key r = rule_key (rule_at r)

abbrev pub ok_rows : ℕ → List (List ℕ) → Bool
ok_rows n l = walked (ok_row n) row_key (map itself l)

abbrev pub ok_process : ℕ → List (List ℕ) → Bool
ok_process n rows = shaped_setup rows && ok_setup n (setup_of rows)

-- ---- a test of all, in parts

module _ {A : Type 0} where
  all_and : (f g : A → Bool) (l : List A) → all f l && all g l ≡ all (λ x. f x && g x) l
  unfolding all
  all_and f g [] = refl
  all_and f g (x ∷ l) = and_swap (f x) (all f l) (g x) (all g l) ∙ ap (λ (b : Bool). (f x && g x) && b) (all_and f g l)
    where
      and_swap : (a b c d : Bool) → (a && b) && (c && d) ≡ (a && c) && (b && d)
      and_swap true true c d = refl
      and_swap true false true d = refl
      and_swap true false false d = refl
      and_swap false b c d = refl

  all_map : {B : Type 0} (f : B → Bool) (g : A → B) (l : List A) → all f (map g l) ≡ all (λ x. f (g x)) l
  unfolding all
  all_map f g [] = refl
  all_map f g (x ∷ l) = ap (λ (b : Bool). f (g x) && b) (all_map f g l)

-- ---- the rows of one process

order_said : (l : List (List ℕ)) → in_order row_key (map itself l) ≡ in_order rule_key (map rule_at l)
unfolding in_order
order_said [] = refl
order_said (x ∷ []) = refl
order_said (x ∷ y ∷ l) = ap (λ (b : Bool). is_less (compare rule_key (rule_at x) (rule_at y)) && b) (order_said (y ∷ l))

rows_are : (n : ℕ) (l : List (List ℕ)) → ok_rows n l ≡ all shaped_rule l && (all (ok_rule n) (map rule_at l) && in_order rule_key (map rule_at l))
rows_are n l =
    rw (all_map (ok_row n) itself l, ← all_and shaped_rule (λ x. ok_rule n (rule_at x)) l, ← all_map (ok_rule n) rule_at l, order_said l)
    (grouped (all shaped_rule l) (all (ok_rule n) (map rule_at l)) (in_order rule_key (map rule_at l)))
  where
    grouped : (a b c : Bool) → (a && b) && c ≡ a && (b && c)
    grouped true b c = refl
    grouped false b c = refl

module _ (n : ℕ) (rows : List (List ℕ)) where
  pub process_short : (length rows ≡ 65 → ⊥) → false ≡ ok_process n rows
  unfolding shaped_setup
  process_short h = rw (ne_eqb (length rows) 65 h)

  module _ (long : length rows ≡ 65) where
    pub process_count : 64 < heading rows 0 → false ≡ ok_process n rows
    unfolding shaped_setup
    process_count h = rw (eq-eqb (length rows) 65 long, lt-leb (heading rows 0) 64 h)

    pub process_mode : 7 < heading rows 1 → false ≡ ok_process n rows
    unfolding ok_setup
    process_mode h = rw (lt-leb (heading rows 1) 7 h) (sym (and_false (shaped_setup rows)))

    pub process_tally : heading rows 1 ≤ 7 → 4_294_967_295 < heading rows 2 → false ≡ ok_process n rows
    unfolding ok_setup
    process_tally m h = rw (le-leb (heading rows 1) 7 m, lt-leb (heading rows 2) 4_294_967_295 h) (sym (and_false (shaped_setup rows)))

    few : length (map rule_at (rule_rows rows)) ≤ 64
    few = rw (length-map (rule_rows rows) rule_at, length-take, length-drop) (omega arith)

    pub process_rules : heading rows 0 ≤ 64 → heading rows 1 ≤ 7 → heading rows 2 ≤ 4_294_967_295 → ok_rows n (rule_rows rows) ≡ ok_process n rows
    unfolding shaped_setup ok_setup
    process_rules c m t =
        rows_are n (rule_rows rows)
        ∙ rw (eq-eqb (length rows) 65 long, le-leb (heading rows 0) 64 c, le-leb (heading rows 1) 7 m, le-leb (heading rows 2) 4_294_967_295 t, le-leb (length (map rule_at (rule_rows rows))) 64 few)

-- ---- the whole model

module _ (m : List (List (List ℕ))) where
  pub lawful_short : (length m ≡ 8 → ⊥) → false ≡ lawful_model m
  unfolding lawful_model shaped_model
  lawful_short h = rw (ne_eqb (length m) 8 h)

  pub lawful_none : processes_of m < 1 → false ≡ lawful_model m
  unfolding lawful_model ok_model
  lawful_none h =
      let z : length (model_of m) < 1 = omega (arith, model_length m) in
      rw (lt-leb 1 (length (model_of m)) z) (sym (and_false (shaped_model m)))

  module _ (long : length m ≡ 8) where
    pub lawful_many : 8 < processes_of m → false ≡ lawful_model m
    unfolding lawful_model shaped_model
    lawful_many h = rw (eq-eqb (length m) 8 long, lt-leb (processes_of m) 8 h)

    pub lawful_processes : 1 ≤ processes_of m → processes_of m ≤ 8 → all (ok_process (processes_of m)) (take (processes_of m) m) ≡ lawful_model m
    unfolding lawful_model shaped_model ok_model model_of
    lawful_processes a b =
        let n : ℕ = processes_of m in
        let z : length (map setup_of (take n m)) ≡ n = omega (arith, model_length m) in
        sym (rw (eq-eqb (length m) 8 long, z, le-leb n 8 b, le-leb 1 n a, all_map (ok_setup n) setup_of (take n m)) (all_and shaped_setup (λ rows. ok_setup n (setup_of rows)) (take n m)))
