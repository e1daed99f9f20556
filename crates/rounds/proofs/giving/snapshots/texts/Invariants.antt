use Rattle.std.proofs.Common.{◌≡◌, map, take}
use Rattle.std.specs.List.{zip}
use Rattle.std.specs.Arc.{arc_value}
use Rattle.std.specs.String.{string_bytes}
use Rattle.ladder_items.specs.Shown.{media_text, frames_text}
use Rattle.rounds.proofs.giving.snapshots.texts.Given as goal

abbrev pub invariant-loop-i : goal.invariant-loop-i
invariant-loop-i l = record {
  media : map (λ t. string_bytes (arc_value t)) l.media.items ≡ map (λ x. media_text x.0 x.1) (take l.i (zip l.playlists l.ended));
  frames : map (λ t. string_bytes (arc_value t)) l.frames.items ≡ map (λ x. frames_text x.0 x.1) (take l.i (zip l.playlists l.ended));
}
