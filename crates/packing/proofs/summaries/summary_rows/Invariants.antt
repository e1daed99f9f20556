use Rattle.std.proofs.Common.{◌≡◌, map, get_or}
use Rattle.std.specs.List.{range_with_len}
use Rattle.ladder_items.specs.Ladder.{no_rendition}
use Rattle.packing.specs.SummaryLines.{told_value}
use Rattle.packing.specs.Summaries.{told_of}
use Rattle.packing.proofs.summaries.summary_rows.Given as goal

abbrev pub invariant-loop-r : goal.invariant-loop-r
invariant-loop-r l = map told_value l.rows.items ≡ map (λ r. told_of (get_or l.renditions r no_rendition) l.report r) (range_with_len 0 l.r)
