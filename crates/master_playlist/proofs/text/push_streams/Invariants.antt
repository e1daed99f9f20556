use Rattle.std.proofs.Common.{◌≡◌, ◌≤◌, ◌++◌, drop}
use Rattle.std.specs.String.{string_bytes, string_capacity}
use Rattle.master_playlist.proofs.Texts.{streams_text}
use Rattle.master_playlist.proofs.text.push_streams.Given as goal

abbrev pub invariant-loop-variant : goal.invariant-loop-variant
invariant-loop-variant l = record {
  written : string_bytes l.out ++ streams_text (drop l.variant-index l.variants) ≡ string_bytes l.initial.out ++ streams_text l.variants;
  room : string_capacity l.fn.out ≤ string_capacity l.out;
}
