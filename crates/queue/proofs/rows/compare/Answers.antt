-- The first word that differs decides; where none does, the messages are the same.
use Rattle.std.proofs.Common.{rules, sym, ◌∙◌, arith}
use Rattle.queue.proofs.Reading.{by_word, by_none}
use Rattle.queue.proofs.rows.compare.Goals as goal

pub returns-then-is_ne : goal.returns-then-is_ne
returns-then-is_ne c = let k = c.loop-k.k in
    c.cmp-order.ensures ∙ by_word c.args.a c.args.b (search rules) (search rules) k (omega arith) c.loop-k.invariant (rw c.cmp-order.ensures at (sym c.is_ne.ensures ∙ c.if-is_ne.true))

pub returns : goal.returns
returns c = by_none c.args.a c.args.b (search rules) (search rules) (λ k h. c.loop-k.invariant k (omega arith))
