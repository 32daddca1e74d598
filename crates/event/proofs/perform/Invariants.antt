-- The loop holds that what has joined, with what is left to send, is what the whole event sends.
use Rattle.event.specs.Event.{SameRows, Within}
use Rattle.event.proofs.Walks.{Leaving}
use Rattle.event.proofs.perform.Given as goal

abbrev pub invariant-loop-row : goal.invariant-loop-row
invariant-loop-row l = record {
  within : Within l.row-index l.w;
  leaving : Leaving l.rules l.rows l.process l.time l.fn.stand l.row-index l.w l.initial.out l.out;
  same_rows : SameRows l.out l.initial.out;
}
