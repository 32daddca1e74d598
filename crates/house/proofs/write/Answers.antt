use mathlib.Core.Path.{refl, sym, ap, ◌∙◌}
use native.Mathlib.Numerals.{add-one}
use native.Mathlib.Omega.{arith}
use lib.ListN.{length, length-set}
use lib.Seq.{sets}
use Rattle.house.specs.Numbers.{house_least, house_one, house_more}
use Rattle.house.specs.Promise.{short_writes, next_writes}
use Rattle.house.proofs.write.Goals as goal

pub returns-then-buffer-at : goal.returns-then-buffer-at
returns-then-buffer-at c = short_writes _ _ _ (omega (arith, house_least c.args.number))

pub overflow_sub-buffer : goal.overflow_sub-buffer
overflow_sub-buffer c = omega arith

pub returns-then-buffer-at-2 : goal.returns-then-buffer-at-2
returns-then-buffer-at-2 c = short_writes _ _ _ (omega arith)

pub loop-rest-init : goal.loop-rest-init
loop-rest-init c = (omega arith, refl, refl, refl)

pub overflow_add-buffer : goal.overflow_add-buffer
overflow_add-buffer c = omega arith

pub overflow_cast-buffer : goal.overflow_cast-buffer
overflow_cast-buffer c = omega arith

pub bounds-buffer-next : goal.bounds-buffer-next
bounds-buffer-next c = omega (arith, house_least c.loop-rest.rest)

pub overflow_add-next : goal.overflow_add-next
overflow_add-next c = omega (arith, house_least c.loop-rest.rest)

pub loop-rest-smaller : goal.loop-rest-smaller
loop-rest-smaller c = omega arith

pub loop-rest-preserved : goal.loop-rest-preserved
loop-rest-preserved c = let l = c.loop-rest in let e = house_more l.rest l.invariant.0 c.loop-rest-test.true in
    (omega arith, omega (arith, ap length e), simp length-set l.invariant.2, rw add-one (ap (sets l.buffer l.next) (sym e) ∙ l.invariant.3))

pub overflow_cast-buffer-2 : goal.overflow_cast-buffer-2
overflow_cast-buffer-2 c = omega arith

pub bounds-buffer-next-2 : goal.bounds-buffer-next-2
bounds-buffer-next-2 c = omega (arith, house_least c.loop-rest.rest)

pub overflow_add-result : goal.overflow_add-result
overflow_add-result c = omega (arith, house_least c.loop-rest.rest)

pub shape_of-buffer : goal.shape_of-buffer
shape_of-buffer c = simp length-set (omega arith)

pub returns : goal.returns
returns c = let l = c.loop-rest in let e = house_one l.rest c.loop-rest-test.false in
    next_writes _ _ _ _ _ (omega arith) (omega (arith, ap length e)) (ap (sets l.buffer l.next) (sym e) ∙ l.invariant.3)
