use Rattle.std.proofs.Common.{map, take}
use Rattle.command_line.specs.Offered.{Offers, flag_offered}
use Rattle.command_line.proofs.pack_options.with_flags.Given as goal

abbrev pub invariant-loop-option : goal.invariant-loop-option
invariant-loop-option l = Offers l.fn.options.items (map flag_offered (take l.option-index l.flags)) l.options.items
