-- A line that was written at the start of the text is what the turn says.
use mathlib.Core.Path.{◌≡◌, ap}
use mathlib.Core.List.{List}
use Prim.Native.Nat.{ℕ, ◌≤◌}
use lib.ListN.{length}
use Rattle.std.specs.Prelude.{Result, Ok}
use Rattle.definition.specs.declared.refusal.Refusal.{Refusal}
use Rattle.house.specs.Promise.{Writes}
use Rattle.record.specs.Entry.{put_next}
use Rattle.lines.specs.Events.{at_the_start}
use Rattle.rehearsal.specs.Promise.{Printed, Says}

pub said : {lines before after : List ℕ} {r : Result ℕ Refusal} {end : ℕ} (next : ℕ) → r ≡ Ok end → length lines ≤ length before → Writes lines before 0 r after
    → Says lines next (Printed end next) before after
said next e h w = let p = at_the_start h (put_next _ _ _ _ _ (rw e at w)) in record { answer = ap (λ (n : ℕ). Printed n next) p.0; text = p.1 }
