-- A lower bound of all receive times that is one of them, or "never" where there is none.
use Rattle.std.proofs.Common.{rules}
use Rattle.queue.proofs.Least.{least_is}
use Rattle.queue.proofs.transit.least.Goals as goal

pub returns : goal.returns
returns c = least_is c.args.tr.now c.unwrap_or.result (search rules) (search rules) (search rules)
