-- By whether the row is read, and by what is found.
use Rattle.std.proofs.Common.{◌+◌, refl, sym, ◌∙◌, arith}
use Rattle.rule.specs.Rows.{rule_of}
use Rattle.event.proofs.Sending.{counted_few, rule_length, answers, read_answered, sends_answered, read_unanswered, sends_unanswered, read_passed, sends_passed}
use Rattle.event.proofs.read.Goals as goal

pub returns-then-not-is_read : goal.returns-then-not-is_read
returns-then-not-is_read c =
    let a = c.args in
    let i = sym c.is_read.ensures ∙ c.if-not-is_read.true in
    record { row_read = read_passed a.rules.now a.time a.row a.w i; row_sends = sends_passed a.rules.now a.time a.row a.w i }

pub overflow_add-next-in-Some : goal.overflow_add-next-in-Some
overflow_add-next-in-Some c = let rule = c.in-Some.rule in omega (arith, c.requires.sent, counted_few c.args.time (rule_of rule).sends _ c.sends.ensures, rule_length rule)

pub returns-in-Some : goal.returns-in-Some
returns-in-Some c =
    let a = c.args in
    let i = sym c.is_read.ensures ∙ c.if-not-is_read.false in
    let s = c.in-Some in
    let r = answers a.time _ a.w s.rule c.after.result c.ordinals.result c.sends.result c.after.ensures c.ordinals.ensures c.sends.ensures in
    record {
      row_read = read_answered a.rules.now a.time a.row a.w i s.rule _ s.ensures r;
      row_sends = sends_answered a.rules.now a.time a.row a.w i s.rule _ s.ensures r;
    }

pub returns-in-None : goal.returns-in-None
returns-in-None c =
    let a = c.args in
    let i = sym c.is_read.ensures ∙ c.if-not-is_read.false in
    let r = record a.w { read = a.w.read + 1 } in
    record {
      row_read = read_unanswered a.rules.now a.time a.row a.w i c.in-None.ensures r refl;
      row_sends = sends_unanswered a.rules.now a.time a.row a.w i c.in-None.ensures r;
    }
