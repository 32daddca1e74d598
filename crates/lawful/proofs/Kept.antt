-- A call on a lawful state leaves a lawful state: `kept` of specs/Kept.antt, said of the record.
use Rattle.std.specs.Prelude.{◌≡◌, true}
use Rattle.definition.specs.BadState.{call}
use Rattle.definition.specs.State.{State}
use Rattle.definition.specs.declared.Call.{Call}
use Rattle.lawful.specs.Kept.{callable, kept}
use Rattle.lawful.specs.Open.{Lawful, lawful, not_bad}

module _ (s : State) (v : Lawful s) where
  pub call_kept : (c : Call) → callable c ≡ true → Lawful (call s c).after
  call_kept c w = lawful (call s c).after (kept s (not_bad s v) c w)
