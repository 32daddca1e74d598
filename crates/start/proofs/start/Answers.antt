-- A refusal writes nothing. Else what is stored is the memory that First speaks of.
use Rattle.std.proofs.Common.{sym, arith}
use Rattle.rule.specs.Laws.{lawful_model_lem}
use Rattle.start.proofs.Sizes.{own_long}
use Rattle.start.proofs.First.{bad_model, bad_lists, begun}
use Rattle.start.proofs.start.Goals as goal

pub returns-then-not-lawful : goal.returns-then-not-lawful
returns-then-not-lawful c = bad_model _ (sym c.if-not-lawful.ensures)

pub returns-then-not-is_sized : goal.returns-then-not-is_sized
returns-then-not-is_sized c = bad_lists _ (sym (c.if-not-is_sized.ensures _ (lawful_model_lem _ (sym c.if-not-lawful.ensures)).most))

pub place-requires : goal.place-requires
place-requires c =
    let k = lawful_model_lem _ (sym c.if-not-lawful.ensures) in
    let z = own_long 0 _ _ _ _ (sym (c.if-not-is_sized.ensures 0 (omega arith))) in
    (omega (arith, k.most, k.long, c.processes.ensures), omega (arith, k.most, z, c.processes.ensures))

pub bounds-own-8 : goal.bounds-own-8
bounds-own-8 c = omega (arith, c.place.ensures.long, own_long 0 _ _ _ _ (sym (c.if-not-is_sized.ensures 0 (omega arith))))

pub returns : goal.returns
returns c =
    let k = sym c.if-not-lawful.ensures in
    begun _ k (sym (c.if-not-is_sized.ensures _ (lawful_model_lem _ k).most)) _ (rw c.processes.ensures at c.place.ensures)
