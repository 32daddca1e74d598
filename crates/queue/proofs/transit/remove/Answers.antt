-- What the rows around it say stays.
use Rattle.std.proofs.Common.{ap, ◌∙◌, ◌+◌, map, take, drop, add-one}
use Rattle.laws.specs.Slices.{map_append, map_take, map_drop}
use Rattle.queue.specs.Rows.{mail_of}
use Rattle.queue.proofs.transit.remove.Goals as goal

pub returns : goal.returns
returns c = let a = c.args in let r = take a.n a.tr.now in
    ap (map mail_of) c.remove.ensures ∙ map_append mail_of (take a.i r) (drop (a.i + 1) r) ∙ rw (map_take mail_of a.i r, map_drop mail_of (a.i + 1) r, add-one a.i)
