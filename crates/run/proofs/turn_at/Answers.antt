-- `run::turn_at` meets its contract: each test stops where the definition does, and the call that is read is the one that is made.
use Rattle.std.proofs.Common.{sym, ap, ◌∙◌}
use Rattle.run.specs.Made.{turn_by, turn_none, turn_short, turn_end, turn_read}
use Rattle.run.proofs.Reading.{read_turn}
use Rattle.run.proofs.turn_at.Goals as goal
use Rattle.run.proofs.turn_at.Goals.{then-rows-eq0-via-then-rows-eq0, then-rows-eq0-via-else-rows-eq0+then-room-lt-BUFFER_LENGTH, then-rows-eq0-via-else-rows-eq0+else-room-lt-BUFFER_LENGTH+then-bytes-at}

pub returns-then-rows-eq0 : goal.returns-then-rows-eq0
returns-then-rows-eq0 c =
    elim c.then-rows-eq0.branch [
      | then-rows-eq0-via-then-rows-eq0 w ↦ sym (turn_none _ _ _ _ w.if-rows-eq0.true)
      | then-rows-eq0-via-else-rows-eq0+then-room-lt-BUFFER_LENGTH w ↦ sym (turn_short _ _ _ _ w.if-room-lt-BUFFER_LENGTH.true)
      | then-rows-eq0-via-else-rows-eq0+else-room-lt-BUFFER_LENGTH+then-bytes-at w ↦ sym (turn_end _ _ _ _ w.if-bytes-at.true)
    ]

pub returns : goal.returns
returns c =
    c.ok.ensures.value ∙ read_turn _ ∙ ap turn_by c.call_at.ensures
    ∙ sym (turn_read _ _ _ _ c.if-rows-eq0.false c.if-room-lt-BUFFER_LENGTH.false c.if-bytes-at.false)
