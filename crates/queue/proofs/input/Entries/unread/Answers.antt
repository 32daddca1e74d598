-- What the search found is the first unread row.
use Rattle.std.proofs.Common.{rules, ℕ, List, ◌≡◌, get_or}
use Rattle.std.specs.Option.{MatchOption}
use Rattle.std.proofs.lemmas.Iterator.{YieldsList-from_slice}
use Rattle.std.proofs.lemmas.Iterator.Search.{find_from_yields_List}
use Rattle.definition.specs.Message.{never}
use Rattle.queue.specs.Rows.{entry_of}
use Rattle.queue.specs.Queues.{is_unread}
use Rattle.queue.proofs.Orders.{received_rises}
use Rattle.queue.proofs.Least.{unread_first}
use Rattle.queue.proofs.input.Entries.unread.Goals as goal

pub returns : goal.returns
returns c = let q = c.args.self.now.rows.now in let x = c.map_or.result in
    let found = find_from_yields_List (λ (r : List ℕ). is_unread c.args.after (entry_of r)) _ _ c.find.result c.find.ensures.ran (YieldsList-from_slice q cc) (λ x b q k. search rules) in
    let told : MatchOption c.find.result (x ≡ never) (λ b. x ≡ get_or b.now 0 0) = search rules in
    unread_first c.args.after q (received_rises q c.args.self.now.order) c.find.result x found told (search rules)
