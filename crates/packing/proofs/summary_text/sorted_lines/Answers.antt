use Rattle.std.proofs.Common.{map, ap, ◌∙◌}
use Rattle.std.proofs.lemmas.List.Sorted.{IsPermutation-map}
use Rattle.std.proofs.lemmas.Result.{IfOk-weaker}
use Rattle.std.specs.List.{flat_map}
use Rattle.packing.specs.SummaryLines.{told_value, line_of}
use Rattle.packing.proofs.summary_text.sorted_lines.Goals as goal

pub returns-clause-ok : goal.returns-clause-ok
returns-clause-ok c = IfOk-weaker c.lines.result _ _ (λ text is. record {
  rows = map told_value c.sort_by_name.new.rows.items;
  same = IsPermutation-map told_value _ _ c.sort_by_name.ensures.same;
  ascending = c.in_ok-sort_by_name.ensures.ascending;
  is = is ∙ ap (λ rows. flat_map line_of (map told_value rows)) c.deref.ensures.value;
}) c.lines.ensures.ok
