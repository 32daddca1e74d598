-- The rows after i move down by one.
use Rattle.std.proofs.Common.{◌≡◌, ap, ◌∙◌, ◌-◌, ◌+◌, take, arith}
use Rattle.laws.specs.Moves.{removed}
use Rattle.queue.proofs.rows.remove.Goals as goal

pub returns : goal.returns
returns c = let a = c.args in
    let e : a.n - (a.i + 1) ≡ a.n - a.i - 1 = omega arith in
    ap (take (a.n - 1)) (c.copy_within.ensures.after ∙ rw e) ∙ removed a.q.now a.n a.i c.requires.0 c.requires.1
