use Rattle.std.proofs.Common.{map, take}
use Rattle.std.specs.Path.{path_buf_bytes}
use Rattle.commands.specs.Checking.{AllGive}
use Rattle.commands.proofs.checking.fill_segments.Given as goal

abbrev pub invariant-loop-place : goal.invariant-loop-place
invariant-loop-place g l = AllGive (g.F.FileReader.gives l.files) (take l.place (map path_buf_bytes l.paths)) (map (λ s. s.items) (take l.place l.segments))
