use Rattle.std.proofs.Common.{◌≡◌, ◌≤◌, ◌++◌, map, take, vec_capacity}
use Rattle.std.specs.String.{string_capacity}
use Rattle.metrics.specs.Samples.{facts_of, column_text}
use Rattle.metrics.proofs.family.push_column.Given as goal

abbrev pub invariant-loop-sample : goal.invariant-loop-sample
invariant-loop-sample l = record {
  written : l.page.out.items ≡ l.fn.page.out.items ++ column_text l.name l.column (map facts_of (take l.sample-index l.samples));
  room : vec_capacity l.fn.page.out ≤ vec_capacity l.page.out;
  text_room : string_capacity l.fn.page.text ≤ string_capacity l.page.text;
}
