-- The output queue is parted at the count that is kept: the rows before it stay, the antimessages of those from it on join transit.
use Rattle.std.specs.Prelude.{◌≡◌, ◌-◌, map, length, take, drop}
use Rattle.std.proofs.Common.{rules, arith, ap, sym, ◌∙◌, length-take, length-take-le, length-drop, take-take}
use Rattle.laws.specs.Slices.{drop_take}
use Rattle.definition.specs.State.{sent_before, sent_from}
use Rattle.queue.specs.Rows.{message_of, messages}
use Rattle.memory.specs.Memory.{number}
use Rattle.deliver.proofs.carry_out.Goals as goal

pub returns : goal.returns
returns c =
    let a = c.args in
    let o = a.outputs.now in
    let n = number a.own.now 1 in
    let k = a.back.sends in
    let t = (message_of a.m).received in
    let rolled = c.requires.going.rolled in
    let ordered = c.requires.sound.ordered in
    let kept : messages o k ≡ sent_before t (messages o n) = ap (map message_of) (sym (take-take k n o (omega (arith, rolled.sends_kept.fits, length-take n o)))) ∙ rolled.sends_kept.before in
    let cancelled : map message_of (take (n - k) (drop k o)) ≡ sent_from t (messages o n) = rw (← drop_take k n o) rolled.sends_kept.after in
    let many : length (take (n - k) (drop k o)) ≡ a.back.cancelled = length-take-le (n - k) (drop k o) (omega (arith, length-drop k o, ordered.output_rows, ordered.few_sends)) ∙ sym rolled.cancelled_sends in
    let mail = rw (many, cancelled) at c.exchange.ensures in
    search (rules, kept, mail)
