-- What a summary tells of a ladder's run.
use Rattle.std.specs.Prelude.{ℕ, List, map, length, get_or}
use Rattle.std.specs.List.{range_with_len}
use Rattle.ladder_items.specs.declared.report.Report.{Report}
use Rattle.ladder_items.specs.Ladder.{Ladder, RenditionValue, no_rendition}
use Rattle.packing.specs.SummaryLines.{Told, AreLinesOf}

-- the numbers of rendition r in a report; 0 where it has none
abbrev pub told_of : RenditionValue → Report → ℕ → Told
told_of rendition report r = record {
  name = rendition.name;
  count = get_or report.counts.items r 0;
  micros = get_or report.micros.items r 0;
  peak = get_or report.peaks.items r 0;
  average = get_or report.averages.items r 0;
}

-- those of each rendition
abbrev pub tolds_of : List RenditionValue → Report → List Told
tolds_of renditions report = map (λ r. told_of (get_or renditions r no_rendition) report r) (range_with_len 0 (length renditions))

-- the text that tells them: a line of each rendition of a ladder, in byte order of their names
abbrev pub IsSummaryOf : Ladder → Report → List ℕ → Type 0
IsSummaryOf ladder report text = AreLinesOf (tolds_of ladder.renditions report) text
