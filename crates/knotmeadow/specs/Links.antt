-- A host's calls in C or Rust are the links of the chain of crate `engine`: a start that is told by 0 begins one, and each call after it goes on with
-- it, whatever its number. So they too are a rehearsal (`a_rehearsal`).
use Rattle.std.specs.Prelude.{◌≡◌, false, List, [], ℕ, length, take}
use Rattle.std.proofs.Common.{sym, ◌∙◌}
use Rattle.definition.specs.declared.Call.{Call}
use Rattle.definition.specs.declared.Call.TheVariants.{Advance}
use Rattle.definition.specs.Record.{onto}
use Rattle.lawful.specs.Written.{written_of, is_advance}
use Rattle.memory.specs.Memory.{Memory}
use Rattle.memory.specs.Promise.{is_refusal, due, due_start, Begun}
use Rattle.engine.specs.Chain.{Called, kept, committed}
use Rattle.knotmeadow.specs.Told.{StartTold, Told}
use Rattle.knotmeadow.specs.Zero.{begun}

pub begins : {m w : Memory} {r : ℕ} → StartTold m w r → r ≡ 0 → Begun m (due_start m).answer w × (is_refusal (due_start m).answer ≡ false)
begins {m} t e = (t.begun, begun m (sym t.number ∙ e))

pub calls : {m w : Memory} {c : Call} {r : ℕ} → is_advance c ≡ false → Told m c w r → Called m c (due m c).answer w []
calls other t = kept other t.kept

-- an advance, whose buffer was b and is d
pub advances : {m w : Memory} {ceiling room r : ℕ} (b d : List ℕ) → length b ≡ room → Told m (Advance ceiling room) w r → d ≡ onto (due m (Advance ceiling room)).bytes b
    → Called m (Advance ceiling room) (due m (Advance ceiling room)).answer w (take (written_of (due m (Advance ceiling room)).answer) d)
advances b d long t e = committed long (record { kept = t.kept; buffer = e })
