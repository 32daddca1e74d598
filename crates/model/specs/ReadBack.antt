-- A model that the theory accepts, put into bytes as document 01 has them, is read back as that model: the reader refuses no such model. `Back` says
-- of a reading that it gives a thing wherever the bytes of that thing stand; `then_back` is the one rule for a reading that goes on from another.
use Rattle.std.specs.Prelude.{◌≡◌, Bool, ◌||◌, ltb, drop}
use Rattle.std.proofs.Math.Path.{refl, sym, ap}
use Rattle.std.proofs.Common.{◌∙◌, arith, length-drop, drop-drop}
use Rattle.std.proofs.Math.Bool.{true, false}
use mathlib.Core.List.{List, [], ◌∷◌, ◌++◌, append-nil, append_assoc}
use Prim.Native.Nat.{ℕ, suc, ◌+◌, ◌-◌, ◌≤◌, ◌<◌, compare, Ordering}
use borrow.Author.Tests.{leb-true, le-leb, ltb-true, lt-ltb, le-ltb}
use Rattle.std.proofs.Math.Dec.{leb}
use Rattle.std.proofs.Math.ListN.{length}
use Rattle.std.proofs.Math.Seq.{drop-append_seam}
use Rattle.definition.specs.declared.Effect.{Effect}
use Rattle.definition.specs.declared.Effect.TheVariants.{Keep, Set, Add, AddRead}
use Rattle.definition.specs.declared.Value.{Value}
use Rattle.definition.specs.declared.Value.TheVariants.{Fixed, Tally, Read}
use Rattle.definition.specs.House.{Read as NumberRead, largest, more_groups, read_groups, number_at, house}
use Rattle.definition.specs.declared.Send.{Send}
use Rattle.definition.specs.Lists.{all, or_else, is_less, compare_keys, in_order}
use Rattle.definition.specs.Model.{Rule, Setup, Model, ok_effect, ok_value, ok_send, ok_stand, ok_rule, ok_setup, ok_model, rule_key}
use Rattle.definition.specs.ModelBytes.{Parsed, Got, and_then, field, in_order_at, effect_at, effect_by, value_at, value_by, send_at, sends_at, rule_at, rules_at, setup_at, setups_at, model_in}
use Rattle.laws.specs.Order.{compare_lt, compare_eq}
use Rattle.laws.specs.Places.{and_true}
use Rattle.house.specs.Groups.{read_groups_lem}
use Rattle.house.specs.Numbers.{holds}
use Rattle.model.specs.Accepted.{Follows, accepted}

-- ---- a model in bytes

abbrev pub effect_bytes : Effect → List ℕ
effect_bytes Keep = house 0
effect_bytes (Set n) = house 1 ++ house n
effect_bytes (Add n) = house 2 ++ house n
effect_bytes AddRead = house 3

abbrev pub value_bytes : Value → List ℕ
value_bytes (Fixed n) = house 0 ++ house n
value_bytes Tally = house 1
value_bytes Read = house 2

abbrev pub send_bytes : Send → List ℕ
send_bytes s = house s.receiver ++ (house s.delay ++ (house s.kind ++ value_bytes s.value))

-- one after another
unfoldable pub joined : {A : Type 0} → (A → List ℕ) → List A → List ℕ
joined f [] = []
joined f (x ∷ l) = f x ++ joined f l

abbrev pub rule_bytes : Rule → List ℕ
rule_bytes r = house r.mode ++ (house r.kind ++ (house r.next ++ (effect_bytes r.effect ++ (house (length r.sends) ++ joined send_bytes r.sends))))

abbrev pub setup_bytes : Setup → List ℕ
setup_bytes u = house u.first.mode ++ (house u.first.tally ++ (house (length u.rules) ++ joined rule_bytes u.rules))

abbrev pub model_bytes : Model → List ℕ
model_bytes M = house (length M) ++ joined setup_bytes M

-- rules in order: the next may follow this one
follows_next : (r : Rule) (rs : List Rule) → in_order rule_key (r ∷ rs) ≡ true → Follows r.mode (suc r.kind) rs × (in_order rule_key rs ≡ true)
unfolding Follows in_order compare_keys
follows_next r [] h = (tt, refl)
follows_next r (s ∷ rs) h =
    let w = and_true (is_less (or_else (compare r.mode s.mode) (or_else (compare r.kind s.kind) Ordering.eq))) _ h in
    (by_mode (compare r.mode s.mode) refl w.0, w.1)
  where
    no : {X : Type 0} → false ≡ true → X
    no e = let z : ◌≡◌ {A = ℕ} 0 1 = cc in absurd (omega arith)

    by_kind : (o : Ordering) → compare r.kind s.kind ≡ o → r.mode ≡ s.mode → is_less (or_else o Ordering.eq) ≡ true
        → (leb r.mode s.mode ≡ true) × ((ltb r.mode s.mode || leb (suc r.kind) s.kind) ≡ true)
    by_kind Ordering.lt e m t =
        (le-leb r.mode s.mode (omega arith), rw (le-ltb r.mode s.mode (omega arith), le-leb (suc r.kind) s.kind (compare_lt _ _ e)))
    by_kind Ordering.eq e m t = no t
    by_kind Ordering.gt e m t = no t

    by_mode : (o : Ordering) → compare r.mode s.mode ≡ o → is_less (or_else o (or_else (compare r.kind s.kind) Ordering.eq)) ≡ true
        → (leb r.mode s.mode ≡ true) × ((ltb r.mode s.mode || leb (suc r.kind) s.kind) ≡ true)
    by_mode Ordering.lt e t = let l : r.mode < s.mode = compare_lt _ _ e in (le-leb r.mode s.mode (omega arith), rw (lt-ltb r.mode s.mode l))
    by_mode Ordering.eq e t = by_kind (compare r.kind s.kind) refl (compare_eq _ _ e) t
    by_mode Ordering.gt e t = no t

-- ---- what stands in bytes is read

module _ (bs : List ℕ) where
  record Back {A : Type 0} (p : ℕ → Parsed A) (text : List ℕ) (a : A) : Type 0 where
    back : (at : ℕ) (post : List ℕ) → drop at bs ≡ text ++ post → (next : ℕ) × (p at ≡ Got a next) × (drop next bs ≡ post)

  then_back : {A B : Type 0} {p : ℕ → Parsed A} {t u : List ℕ} {a : A} {b : B} (f : ℕ → A → ℕ → Parsed B)
      → Back p t a → ((at : ℕ) → Back (f at a) u b) → Back (λ at. and_then (p at) (f at)) (t ++ u) b
  then_back {t = t} {u = u} f h k = record {
    back = λ at post e.
        let x = h.back at (u ++ post) (e ∙ append_assoc t u post) in
        let y = (k at).back x.0 post x.2 in
        (y.0, rw x.1 y.1, y.2);
  }

  ends_back : {A B : Type 0} {p : ℕ → Parsed A} {t : List ℕ} {a : A} {b : B} (f : A → ℕ → Parsed B)
      → Back p t a → ((next : ℕ) → f a next ≡ Got b next) → Back (λ at. and_then (p at) f) t b
  ends_back f h k = record { back = λ at post e. let x = h.back at post e in (x.0, rw x.1 (k x.0), x.2) }

  tested_back : {A : Type 0} {p : ℕ → Parsed A} {t : List ℕ} {a : A} (b : Bool) (at : ℕ) → b ≡ true → Back p t a → Back (λ next. in_order_at b at (p next)) t a
  tested_back b at e h = record { back = λ here post d. let x = h.back here post d in (x.0, rw e x.1, x.2) }

  field_back : (low high n : ℕ) → low ≤ n → n ≤ high → high ≤ largest → Back (field bs low high) (house n) n
  unfolding field number_at
  field_back low high n l h k = record {
    back = λ at post e.
        let r : read_groups more_groups 1 0 at (house n ++ post) ≡ NumberRead n (at + length (house n)) =
        read_groups_lem more_groups 1 0 at n post n (at + length (house n)) (omega (arith, holds)) (λ i. absurd (omega arith)) (omega arith) refl in (
          at + length (house n),
          rw (e, r, le-leb low n l, le-leb n high h),
          sym (drop-drop (length (house n)) at bs) ∙ ap (drop (length (house n))) e ∙ drop-append_seam (house n) post,
        );
  }

  effect_back : (e : Effect) → ok_effect e ≡ true → Back (effect_at bs) (effect_bytes e) e
  unfolding effect_at
  effect_back Keep o = ends_back (effect_by bs) (field_back 0 3 0 (omega arith) (omega arith) (omega arith)) (λ next. refl)
  effect_back (Set n) o =
      then_back (λ _. effect_by bs) (field_back 0 3 1 (omega arith) (omega arith) (omega arith)) (λ at.
      ends_back _ (field_back 0 largest n (omega arith) (leb-true _ _ o) (omega arith)) (λ next. refl))
  effect_back (Add n) o =
      then_back (λ _. effect_by bs) (field_back 0 3 2 (omega arith) (omega arith) (omega arith)) (λ at.
      ends_back _ (field_back 0 largest n (omega arith) (leb-true _ _ o) (omega arith)) (λ next. refl))
  effect_back AddRead o = ends_back (effect_by bs) (field_back 0 3 3 (omega arith) (omega arith) (omega arith)) (λ next. refl)

  value_back : (v : Value) → ok_value v ≡ true → Back (value_at bs) (value_bytes v) v
  unfolding value_at
  value_back (Fixed n) o =
      then_back (λ _. value_by bs) (field_back 0 2 0 (omega arith) (omega arith) (omega arith)) (λ at.
      ends_back _ (field_back 0 largest n (omega arith) (leb-true _ _ o) (omega arith)) (λ next. refl))
  value_back Tally o = ends_back (value_by bs) (field_back 0 2 1 (omega arith) (omega arith) (omega arith)) (λ next. refl)
  value_back Read o = ends_back (value_by bs) (field_back 0 2 2 (omega arith) (omega arith) (omega arith)) (λ next. refl)

  -- in a model whose highest process is given
  module _ (highest : ℕ) (small : highest ≤ 7) where
    send_back : (s : Send) → ok_send (suc highest) s ≡ true → Back (send_at bs highest) (send_bytes s) s
    unfolding send_at
    send_back s o =
        let a = and_true (ltb s.receiver (suc highest)) _ o in
        let b = and_true (leb 1 s.delay) _ a.1 in
        let c = and_true (leb s.delay 65_535) _ b.1 in
        let d = and_true (leb s.kind 7) _ c.1 in
        let r : s.receiver < suc highest = ltb-true _ _ a.0 in
        then_back _ (field_back 0 highest s.receiver (omega arith) (omega arith) (omega arith)) (λ _.
        then_back _ (field_back 1 65_535 s.delay (leb-true _ _ b.0) (leb-true _ _ c.0) (omega arith)) (λ _.
        then_back _ (field_back 0 7 s.kind (omega arith) (leb-true _ _ d.0) (omega arith)) (λ _.
        ends_back _ (value_back s.value d.1) (λ next. refl))))

    sends_back : (ss : List Send) → all (ok_send (suc highest)) ss ≡ true → Back (sends_at bs highest (length ss)) (joined send_bytes ss) ss
    unfolding sends_at all joined
    sends_back [] o = record { back = λ at post e. (at, refl, e) }
    sends_back (s ∷ ss) o =
        let a = and_true (ok_send (suc highest) s) _ o in
        then_back _ (send_back s a.0) (λ _. ends_back _ (sends_back ss a.1) (λ next. refl))

    rule_back : (m k : ℕ) (r : Rule) → ok_rule (suc highest) r ≡ true → leb m r.mode ≡ true → (ltb m r.mode || leb k r.kind) ≡ true
        → Back (rule_at bs highest m k) (rule_bytes r) r
    unfolding rule_at ok_rule
    rule_back m k r o g h =
        let a = and_true (leb r.mode 7) _ o in
        let b = and_true (leb r.kind 7) _ a.1 in
        let c = and_true (leb r.next 7) _ b.1 in
        let d = and_true (ok_effect r.effect) _ c.1 in
        let e = and_true (leb (length r.sends) 2) _ d.1 in
        then_back _ (field_back 0 7 r.mode (omega arith) (leb-true _ _ a.0) (omega arith)) (λ at.
        tested_back (leb m r.mode) at g (
        then_back _ (field_back 0 7 r.kind (omega arith) (leb-true _ _ b.0) (omega arith)) (λ _.
        tested_back (ltb m r.mode || leb k r.kind) at h (
        then_back _ (field_back 0 7 r.next (omega arith) (leb-true _ _ c.0) (omega arith)) (λ _.
        then_back _ (effect_back r.effect d.0) (λ _.
        then_back _ (field_back 0 2 (length r.sends) (omega arith) (leb-true _ _ e.0) (omega arith)) (λ _.
        ends_back _ (sends_back r.sends e.1) (λ next. refl))))))))

    rules_back : (m k : ℕ) (rs : List Rule) → all (ok_rule (suc highest)) rs ≡ true → in_order rule_key rs ≡ true → Follows m k rs
        → Back (rules_at bs highest m k (length rs)) (joined rule_bytes rs) rs
    unfolding rules_at all joined Follows
    rules_back m k [] o i f = record { back = λ at post e. (at, refl, e) }
    rules_back m k (r ∷ rs) o i f =
        let a = and_true (ok_rule (suc highest) r) _ o in
        let n = follows_next r rs i in
        then_back _ (rule_back m k r a.0 f.0 f.1) (λ _. ends_back _ (rules_back r.mode (suc r.kind) rs a.1 n.1 n.0) (λ next. refl))

    follows_none : (rs : List Rule) → Follows 0 0 rs
    unfolding Follows
    follows_none [] = tt
    follows_none (r ∷ rs) = (le-leb 0 r.mode (omega arith), rw (le-leb 0 r.kind (omega arith)) (either (ltb 0 r.mode)))
      where
        either : (b : Bool) → (b || true) ≡ true
        either true = refl
        either false = refl

    setup_back : (u : Setup) → ok_setup (suc highest) u ≡ true → Back (setup_at bs highest) (setup_bytes u) u
    unfolding setup_at ok_setup
    setup_back u o =
        let a = and_true (ok_stand u.first) _ o in
        let s = and_true (leb u.first.mode 7) _ a.0 in
        let b = and_true (leb (length u.rules) 64) _ a.1 in
        let c = and_true (all (ok_rule (suc highest)) u.rules) _ b.1 in
        then_back _ (field_back 0 7 u.first.mode (omega arith) (leb-true _ _ s.0) (omega arith)) (λ _.
        then_back _ (field_back 0 largest u.first.tally (omega arith) (leb-true _ _ s.1) (omega arith)) (λ _.
        then_back _ (field_back 0 64 (length u.rules) (omega arith) (leb-true _ _ b.0) (omega arith)) (λ _.
        ends_back _ (rules_back 0 0 u.rules c.0 c.1 (follows_none u.rules)) (λ next. refl))))

    setups_back : (us : Model) → all (ok_setup (suc highest)) us ≡ true → Back (setups_at bs highest (length us)) (joined setup_bytes us) us
    unfolding setups_at all joined
    setups_back [] o = record { back = λ at post e. (at, refl, e) }
    setups_back (u ∷ us) o =
        let a = and_true (ok_setup (suc highest) u) _ o in
        then_back _ (setup_back u a.0) (λ _. ends_back _ (setups_back us a.1) (λ next. refl))

-- the bytes of a model are read as that model, to their end
pub read_back : (M : Model) → ok_model M ≡ true → model_in (model_bytes M) ≡ Got M (length (model_bytes M))
unfolding model_in ok_model
read_back M o =
    let bs : List ℕ = model_bytes M in
    let a = and_true (leb 1 (length M)) _ o in
    let b = and_true (leb (length M) 8) _ a.1 in
    let least : 1 ≤ length M = leb-true _ _ a.0 in
    let most : length M ≤ 8 = leb-true _ _ b.0 in
    let n : suc (length M - 1) ≡ length M = omega arith in
    let x = (field_back bs 1 8 (length M) least most (omega arith)).back 0 (joined setup_bytes M) refl in
    let y = (setups_back bs (length M - 1) (omega arith) M (rw n b.1)).back x.0 [] (x.2 ∙ sym (append-nil (joined setup_bytes M))) in
    let past : length bs ≤ y.0 = omega (arith, length-drop y.0 bs, ap length y.2) in
    let read : model_in bs ≡ Got M y.0 = rw (x.1, y.1, le-ltb y.0 (length bs) past) in
    rw (← (accepted bs M y.0 read).1) read
