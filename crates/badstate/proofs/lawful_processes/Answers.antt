use Rattle.std.proofs.Common.{rules, arith, refl, ◌∙◌}
use Rattle.std.proofs.lemmas.Iterator.{YieldsList-from_range}
use Rattle.std.proofs.lemmas.Iterator.Search.{all_from_yields_List}
use Rattle.laws.specs.Checks.{all_range}
use Rattle.memory.specs.Memory.{all_of}
use Rattle.badstate.specs.Parts.{lawful_at}
use Rattle.badstate.proofs.lawful_processes.Goals as goal

pub returns : goal.returns
unfolding all_of
returns c =
    let a = c.args in
    let f = lawful_at a.processes a.horizon a.own.now a.inputs.now a.outputs.now in
    all_from_yields_List f _ _ c.all.result c.all.ensures.ran (YieldsList-from_range 0 a.processes a.processes refl (omega arith)) (λ x b q k. search rules)
    ∙ all_range f (λ k n. all_of k n f) (λ k. refl) (λ k n. refl) 0 a.processes
