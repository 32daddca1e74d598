-- A count that becomes 0 takes its row out; any other is written where it stands.
use Rattle.std.proofs.Common.{◌≡◌, ◌-◌, [], sym, ◌∙◌, take, set, get_or, get_or-take, arith, length-append, length-take, length-drop}
use Rattle.laws.specs.Moves.{replaced}
use Rattle.queue.proofs.Arrivals.{gone, kept, holds}
use Rattle.queue.proofs.input.recount.Goals as goal

pub returns-then-count-eq-ZERO : goal.returns-then-count-eq-ZERO
returns-then-count-eq-ZERO c = let a = c.args in let r = take a.n a.q.now in
    let e : get_or r a.i [] ≡ get_or a.q.now a.i [] = get_or-take a.n a.q.now a.i [] c.requires.place in
    holds c.remove.new.q (a.n - 1) _ _ c.remove.ensures (simp (length-append, length-take, length-drop) (omega arith))
    (gone r a.i a.anti (rw e c.requires.bound.0) (rw e (sym c.step-count.ensures ∙ c.if-count-eq-ZERO.true)))

pub returns : goal.returns
returns c = let a = c.args in let r = take a.n a.q.now in
    let e : get_or r a.i [] ≡ get_or a.q.now a.i [] = get_or-take a.n a.q.now a.i [] c.requires.place in
    holds (set a.q.now a.i c.with_last.result) a.n _ _ (replaced a.q.now a.n a.i c.with_last.result c.requires.place c.requires.fits) (simp (length-append, length-take, length-drop) (omega arith))
    (rw (c.with_last.ensures, c.step-count.ensures, ← e) (kept r a.i a.anti (rw e c.requires.bound.0) (λ z. c.if-count-eq-ZERO.false (c.step-count.ensures ∙ rw e at z))))
