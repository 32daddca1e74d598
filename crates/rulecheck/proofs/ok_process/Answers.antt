-- A test that fails settles the answer.
use Rattle.std.proofs.Common.{arith}
use Rattle.rulecheck.proofs.Steps.{process_cases}
use Rattle.rulecheck.proofs.ok_process.Goals as goal

pub returns-else-first-le-LARGEST : goal.returns-else-first-le-LARGEST
returns-else-first-le-LARGEST c = grind (arith, process_cases)
