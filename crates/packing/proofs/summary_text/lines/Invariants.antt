use Rattle.std.proofs.Common.{◌≡◌, map, take}
use Rattle.std.specs.List.{flat_map}
use Rattle.std.specs.String.{string_bytes}
use Rattle.packing.specs.SummaryLines.{told_value, line_of}
use Rattle.packing.proofs.summary_text.lines.Given as goal

abbrev pub invariant-loop-row : goal.invariant-loop-row
invariant-loop-row l = string_bytes l.text ≡ flat_map line_of (map told_value (take l.row-index l.rows))
