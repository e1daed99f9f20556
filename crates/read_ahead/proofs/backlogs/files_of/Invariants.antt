use Rattle.std.proofs.Common.{take}
use Rattle.std.specs.List.{AllZip}
use Rattle.read_ahead.proofs.backlogs.files_of.Given as goal

abbrev pub invariant-loop-input : goal.invariant-loop-input
invariant-loop-input g l = AllZip g.I.Input.plain (take l.input-index l.inputs) l.files.items
