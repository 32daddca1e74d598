-- How many bytes a line takes at most, for whoever lends the buffer: the longest, an event's, has 61.
use Rattle.std.specs.Prelude.{◌++◌, ℕ, ◌≤◌, length}
use Rattle.std.proofs.Common.{arith, length-append}
use Rattle.definition.specs.Answer.{Answer, Refused, Started, Injected, Delivered, Executed, Advanced}
use Rattle.definition.specs.declared.Call.{Call}
use Rattle.definition.specs.declared.Call.TheVariants.{Inject, Deliver, Execute, Advance}
use Rattle.definition.specs.declared.Event.{Event}
use Rattle.definition.specs.Program.{spaced, spaced_all, newline, fault_line, model_line, named, answered, event_line}
use Rattle.text.specs.declared.Part.{Part}
use Rattle.text.specs.declared.Part.TheVariants.{File, Model, Call as CallPart}
use Rattle.text.specs.Digits.{digits_most}
use Rattle.text.specs.Part.{part_text}

pub spaced_most : (k : ℕ) → length (spaced k) ≤ 11
unfolding spaced
spaced_most k = omega (arith, digits_most 9 k)

pub part_most : (p : Part) → length (part_text p) ≤ 5
part_most File = omega arith
part_most Model = omega arith
part_most CallPart = omega arith

pub fault_most : (p : Part) (n at : ℕ) → length (fault_line (part_text p) n at) ≤ 39
unfolding fault_line
fault_most p n at = simp length-append (omega (arith, part_most p, spaced_most n, spaced_most at))

pub model_most : (n : ℕ) → length (model_line n) ≤ 20
unfolding model_line
model_most n = simp length-append (omega (arith, spaced_most n))

pub named_most : (c : Call) → length (named c) ≤ 18
unfolding named
named_most (Inject number receiver time kind value) = simp length-append (omega (arith, spaced_most number))
named_most (Deliver place) = simp length-append (omega (arith, spaced_most place))
named_most (Execute process) = simp length-append (omega (arith, spaced_most process))
named_most (Advance ceiling room) = simp length-append (omega (arith, spaced_most ceiling))

pub answered_most : (a : Answer) → length (answered a) ≤ 36
unfolding answered spaced_all
answered_most (Refused n) = simp length-append (omega (arith, spaced_most n))
answered_most Started = omega arith
answered_most Injected = omega arith
answered_most (Delivered undone cancelled) = simp length-append (omega (arith, spaced_most undone, spaced_most cancelled))
answered_most (Executed time read sent) = simp length-append (omega (arith, spaced_most time, spaced_most read, spaced_most sent))
answered_most (Advanced horizon entries bytes) = simp length-append (omega (arith, spaced_most horizon, spaced_most entries))

pub call_most : (c : Call) (a : Answer) → length (named c ++ (answered a ++ newline)) ≤ 55
call_most c a = simp length-append (omega (arith, named_most c, answered_most a))

pub event_most : (e : Event) → length (event_line e) ≤ 61
unfolding event_line spaced_all
event_most e = simp length-append (omega (arith, spaced_most e.time, spaced_most e.process, spaced_most e.read, spaced_most e.stand.mode, spaced_most e.stand.tally))
