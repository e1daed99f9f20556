use Rattle.std.proofs.Common.{◌≡◌, ◌≤◌, ◌++◌, string_bytes}
use Rattle.std.specs.String.{string_capacity, string_len}
use Rattle.percent_encoding.specs.Iter.{encoded_text}
use Rattle.playlist_text.specs.Uris.{escaped}
use Rattle.playlist_text.proofs.uri.push_escaped.Given as goal

abbrev pub invariant-loop-piece : goal.invariant-loop-piece
invariant-loop-piece l = record {
  written : string_bytes l.out ++ encoded_text l.piece-iterator ≡ string_bytes l.fn.out ++ escaped l.fn.name;
  longer : string_len l.fn.out ≤ string_len l.out;
  room : string_capacity l.fn.out ≤ string_capacity l.out;
}
