-- The cases of the check of one process, and of the whole model: which test fails first, or that all hold.
use Rattle.rulecheck.specs.Check.{process_short, process_count, process_mode, process_tally, process_rules, lawful_short, lawful_none, lawful_many, lawful_processes}

pub ruleset process_cases = (process_short, process_count, process_mode, process_tally, process_rules)

pub ruleset lawful_cases = (lawful_short, lawful_none, lawful_many, lawful_processes)
