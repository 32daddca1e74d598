-- By the two tests.
use Rattle.std.proofs.Common.{rules, ◌≡◌, ◌&&◌, leb}
use borrow.Author.Tests.{ne_eqb}
use Rattle.queue.proofs.Nets.{net_ok}
use Rattle.queue.proofs.input.rows_with.Goals as goal

pub returns : goal.returns
returns c = let e : c.contains.result ≡ leb 127 c.args.c && leb c.args.c 385 = search rules in
    rw (ne_eqb _ _ c.if-c-eq-ZERO.false, net_ok c.args.c c.if-c-eq-ZERO.false, ← e) c.then_some.ensures
