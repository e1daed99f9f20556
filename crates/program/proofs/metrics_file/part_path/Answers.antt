use Rattle.std.specs.String.{string_bytes}
use Rattle.program.proofs.Slashes.{part-of}
use Rattle.program.proofs.metrics_file.part_path.Goals as goal

pub returns-in-Some : goal.returns-in-Some
returns-in-Some c = part-of string_bytes c.args.path.now c.in-Some.folder.now c.in-Some.name.now c.in-Some.ensures.cases c.format.result c.format.ensures.ok
