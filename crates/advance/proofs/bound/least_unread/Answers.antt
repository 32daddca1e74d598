-- The least of the unread times of the processes, from 0 on.
use Rattle.std.proofs.Common.{rules, refl, sym, ap, ◌∙◌, arith}
use Rattle.std.specs.Option.{unwrap_or}
use Rattle.std.proofs.lemmas.Iterator.{YieldsList-from_range, YieldsList-from_map}
use Rattle.std.proofs.lemmas.Iterator.Adapters.{option_map_id}
use Rattle.std.proofs.lemmas.Iterator.Consumers.{YieldsList-at, min_from_yields_List}
use Rattle.definition.specs.Message.{never}
use Rattle.advance.specs.Bound.{unread_at, least_found}
use Rattle.advance.proofs.bound.least_unread.Goals as goal

pub returns : goal.returns
returns c =
    let a = c.args in
    let least = min_from_yields_List _ c.min.result c.min.ensures.ran
    (YieldsList-from_map _ (unread_at a.own.now a.inputs.now) (YieldsList-at c.map.ensures.source (YieldsList-from_range 0 a.processes a.processes refl (omega arith))) c.map.ensures.closure (λ x r q k. search rules)) in
    c.unwrap_or.ensures ∙ ap (λ o. unwrap_or o never) (sym (option_map_id c.min.result) ∙ least) ∙ least_found a.own.now a.inputs.now a.processes
