-- How a line that is put together word by word comes to be the definition's: each word is added after the others, there is room for it, and a
-- number's digits come one by one.
use Rattle.text.specs.Digits.{digits_one, digits_more, digits_longer}
use Rattle.text.specs.Line.{adds_none, adds_then, writes_line}
use Rattle.text.specs.Lines.{spaced_most, part_most, named_most, answered_most}

pub ruleset steps = (adds_none, adds_then, writes_line, spaced_most, part_most, named_most, answered_most, digits_one, digits_more, digits_longer)
