use Rattle.std.proofs.Common.{◌≡◌, ◌≤◌, ◌++◌, map, drop}
use Rattle.std.specs.String.{string_bytes, string_capacity}
use Rattle.playlist_text.specs.AttributeValues.{attribute_text}
use Rattle.playlist_text.proofs.Joins.{separated}
use Rattle.playlist_text.proofs.attribute.push_attribute_list.Given as goal

abbrev pub invariant-loop-attribute : goal.invariant-loop-attribute
invariant-loop-attribute l = record {
  written : string_bytes l.out ++ separated (map attribute_text (drop l.attribute-index l.others)) ≡ string_bytes l.initial.out ++ separated (map attribute_text l.others);
  room : string_capacity l.fn.out ≤ string_capacity l.out;
}
