-- A count that is neither 0 nor 1 is 2, and so the definition reads two sends.
use Rattle.std.proofs.Common.{◌≡◌, rules, arith}
use Rattle.definition.specs.ModelBytes.{sends_at}
use Rattle.rulebytes.proofs.sends_at.Goals as goal

pub returns-in_err-second : goal.returns-in_err-second
unfolding sends_at
returns-in_err-second c = let two : c.args.rule.count ≡ 2 = omega arith in rw two (search rules)

pub returns : goal.returns
unfolding sends_at
returns c = let two : c.args.rule.count ≡ 2 = omega arith in rw two (search rules)
