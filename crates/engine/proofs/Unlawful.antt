-- An advance on a memory that is not lawful is refused by 16: nothing is due, and the buffer keeps its bytes.
use mathlib.Core.Path.{◌≡◌, refl, ap, ◌∙◌}
use mathlib.Core.Bool.{Bool, true, false, not}
use mathlib.Core.List.{List}
use Prim.Native.Nat.{ℕ}
use native.Mathlib.Omega.{arith}
use Rattle.definition.specs.Answer.{Refused}
use Rattle.definition.specs.declared.Call.TheVariants.{Advance}
use Rattle.definition.specs.Record.{onto}
use Rattle.definition.specs.Calls.{refuse}
use Rattle.definition.specs.BadState.{bad, call}
use Rattle.memory.specs.Keeping.{check_yes, check_no, kept_unlawful}
use Rattle.memory.specs.Memory.{Memory, state_of, shaped, lawful}
use Rattle.memory.specs.Promise.{due, Committed}

module _ (m : Memory) (ceiling room : ℕ) where
  refused : lawful m ≡ false → due m (Advance ceiling room) ≡ refuse 16 (state_of m)
  unfolding lawful due call
  refused l = go (shaped m) refl (bad (state_of m)) refl
    where
      go : (b : Bool) → shaped m ≡ b → (d : Bool) → bad (state_of m) ≡ d → due m (Advance ceiling room) ≡ refuse 16 (state_of m)
      go false h d e = check_yes (not (shaped m)) 16 (state_of m) _ (ap not h)
      go true h true e =
          let d : due m (Advance ceiling room) ≡ call (state_of m) (Advance ceiling room) = check_no (not (shaped m)) 16 (state_of m) _ (ap not h) in
          let f : call (state_of m) (Advance ceiling room) ≡ refuse 16 (state_of m) = check_yes (bad (state_of m)) 16 (state_of m) _ e in
          d ∙ f
      go true h false e =
          let y : lawful m ≡ true = rw (h, e) in
          let z : ◌≡◌ {A = ℕ} 0 1 = cc in
          absurd (omega arith)

  pub committed_unlawful : (b : List ℕ) → lawful m ≡ false → Committed m (Advance ceiling room) (Refused 16) m b b
  unfolding onto
  committed_unlawful b l = record { kept = kept_unlawful m (Advance ceiling room) l; buffer = rw (refused l) }
