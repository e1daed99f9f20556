use Rattle.std.proofs.Common.{◌≡◌, take}
use Rattle.std.specs.List.{AllZip}
use Rattle.std.specs.String.{string_bytes}
use Rattle.read_ahead.proofs.input_files.inputs_at.Given as goal

abbrev pub invariant-loop-path : goal.invariant-loop-path
invariant-loop-path g l = AllZip (λ path input. (input.files ≡ l.files) × (string_bytes input.path ≡ path.now)) (take l.path-index l.paths) l.inputs.items
