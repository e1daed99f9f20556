use Rattle.std.proofs.Common.{map, take}
use Rattle.command_line.specs.Offered.{Offers, number_offered}
use Rattle.command_line.proofs.options.with_numbers.Given as goal

abbrev pub invariant-loop-option : goal.invariant-loop-option
invariant-loop-option l = Offers l.fn.options.items (map number_offered (take l.option-index l.numbers)) l.options.items
