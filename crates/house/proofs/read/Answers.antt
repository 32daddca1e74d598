use Rattle.std.proofs.Common.{◌≡◌, refl, sym, ap, ◌∙◌, ◌⊎◌, ℕ, ◌^◌, ◌+◌, ◌*◌, ◌-◌, ◌%◌, ◌<◌, ◌≤◌, List, ◌∷◌, length, get_or, drop, arith, drop_of_length-le}
use mathlib.Core.Logic.{⊎_elim}
use Rattle.definition.specs.House.{last_groups, read_groups, number_at}
use Rattle.house.specs.Groups.{byte_next, byte_cut, byte_too_big, byte_overlong, byte_last, byte_more, byte_follows, byte_held}
use Rattle.house.specs.Groups.{Room, room_first, room_next, room_sum, room_weight}
use Rattle.house.specs.Numbers.{holds}
use Rattle.house.proofs.read.Goals as goal

-- the number is what this byte and those after it give
turn : (bs : List ℕ) (at more weight value next byte : ℕ) → number_at bs at ≡ read_groups more weight value next (drop next bs) → next < length bs → byte ≡ get_or bs next 0
    → number_at bs at ≡ read_groups more weight value next (byte ∷ drop (next + 1) bs)
turn bs at more weight value next byte e l b = rw b (e ∙ byte_next _ _ _ _ _ l)

-- past the test for TooBig, a byte that none may follow is below the bound
last : (more byte : ℕ) → (more ≡ 0 × byte < 16) ⊎ (more ≡ 0 → ⊥) → more ≡ 0 → byte < last_groups
last more byte h z = ⊎_elim (λ w. w.1) (λ w. absurd (w z)) h

-- after a byte that another follows there is room for the next
room : (more weight value byte : ℕ) → Room more weight value → 128 ≤ byte → byte < 256 → ((more ≡ 0) → byte < last_groups)
    → Room (more - 1) (weight * 128) (value + weight * (byte % 128))
room more weight value byte r f b l = room_next _ _ _ _ (byte_follows _ _ f l) r (omega arith)

pub loop-next-init : goal.loop-next-init
unfolding number_at
loop-next-init c = (room_first, refl)

pub returns-then-byte-ge-LAST_GROUPS : goal.returns-then-byte-ge-LAST_GROUPS
returns-then-byte-ge-LAST_GROUPS c =
    sym (turn _ _ _ _ _ _ _ c.loop-next.invariant.1 c.loop-next-test.true c.from-byte.ensures ∙ byte_too_big _ _ _ _ _ _ (omega arith) (omega arith))

pub returns-then-byte-eq0 : goal.returns-then-byte-eq0
returns-then-byte-eq0 c =
    sym (turn _ _ _ _ _ _ _ c.loop-next.invariant.1 c.loop-next-test.true c.from-byte.ensures ∙ byte_overlong _ _ _ _ _ _ (omega arith) (omega arith))

-- a byte that ends the number is held, and so is the number
held : (more weight value byte : ℕ) → Room more weight value → byte < 128 → (more ≡ 0 → byte < last_groups) → value + weight * byte < 2 ^ 32
held more weight value byte r h l = omega (arith, room_sum _ _ _ _ r (byte_held _ _ h l), holds)

pub overflow_mul-result : goal.overflow_mul-result
overflow_mul-result c = omega (arith, held _ _ _ _ c.loop-next.invariant.0 c.if-byte-lt-GROUP.true (last _ _ c.else-more-eq0.either))

pub overflow_add-result : goal.overflow_add-result
overflow_add-result c = omega (arith, held _ _ _ _ c.loop-next.invariant.0 c.if-byte-lt-GROUP.true (last _ _ c.else-more-eq0.either))

pub returns-then-byte-lt-GROUP : goal.returns-then-byte-lt-GROUP
returns-then-byte-lt-GROUP c =
    sym (turn _ _ _ _ _ _ _ c.loop-next.invariant.1 c.loop-next-test.true c.from-byte.ensures
    ∙ byte_last _ _ _ _ _ _ _ _ c.if-byte-lt-GROUP.true (byte_held _ _ c.if-byte-lt-GROUP.true (last _ _ c.else-more-eq0.either))
    (λ l. ⊎_elim (λ w. omega (arith, w)) (λ w. absurd (omega (arith, w))) c.else-weight-gt1.either) refl refl)

pub overflow_sub-more : goal.overflow_sub-more
overflow_sub-more c = byte_follows _ _ c.if-byte-lt-GROUP.false (last _ _ c.else-more-eq0.either)

-- there is room for the next
next : (more weight value byte : ℕ) → Room more weight value → 128 ≤ byte → byte < 256 → (more ≡ 0 → byte < last_groups)
    → (value + weight * (byte % 128) < 2 ^ 32) × (weight * 128 < 2 ^ 32)
next more weight value byte r f b l =
    let s = room more weight value byte r f b l in (omega (arith, s, room_weight _ _ _ s, holds), omega (arith, room_weight _ _ _ s, holds))

pub overflow_mul-value : goal.overflow_mul-value
overflow_mul-value c =
    omega (arith, (next _ _ _ _ c.loop-next.invariant.0 c.if-byte-lt-GROUP.false (omega (arith, c.from-byte.ensures, c.type_inv.bytes c.loop-next.next)) (last _ _ c.else-more-eq0.either)).0)

pub overflow_add-value : goal.overflow_add-value
overflow_add-value c =
    omega (arith, (next _ _ _ _ c.loop-next.invariant.0 c.if-byte-lt-GROUP.false (omega (arith, c.from-byte.ensures, c.type_inv.bytes c.loop-next.next)) (last _ _ c.else-more-eq0.either)).0)

pub overflow_mul-weight : goal.overflow_mul-weight
overflow_mul-weight c =
    omega (arith, (next _ _ _ _ c.loop-next.invariant.0 c.if-byte-lt-GROUP.false (omega (arith, c.from-byte.ensures, c.type_inv.bytes c.loop-next.next)) (last _ _ c.else-more-eq0.either)).1)

pub loop-next-preserved : goal.loop-next-preserved
loop-next-preserved c = (
  room _ _ _ _ c.loop-next.invariant.0 c.if-byte-lt-GROUP.false (omega (arith, c.from-byte.ensures, c.type_inv.bytes c.loop-next.next)) (last _ _ c.else-more-eq0.either),
  turn _ _ _ _ _ _ _ c.loop-next.invariant.1 c.loop-next-test.true c.from-byte.ensures
      ∙ byte_more _ _ _ _ _ _ (byte_follows _ _ c.if-byte-lt-GROUP.false (last _ _ c.else-more-eq0.either)) c.if-byte-lt-GROUP.false,
)

pub returns : goal.returns
returns c = sym (c.loop-next.invariant.1 ∙ ap (read_groups _ _ _ _) (drop_of_length-le _ c.loop-next-test.false) ∙ byte_cut _ _ _ _)
