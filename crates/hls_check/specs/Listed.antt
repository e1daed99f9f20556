-- Segments that were sealed, and what lists them.
use Rattle.std.specs.Prelude.{◌≡◌, ⊤, List, [], ◌∷◌}
use Rattle.playlist_text.specs.MediaLines.{Entry}
use Rattle.segment_job.specs.Rotation.{KeyRotation, number_of, key_index}
use Rattle.segment_job.specs.Segments.{SealedSegment, sealed_segment, IsSealed}

-- an entry lists a segment that these keys sealed: by its number, and by the index of its key
pub record Lists (keys : KeyRotation) (entry : Entry) (sealed : SealedSegment) : Type 0 where
  pub is_sealed : IsSealed sealed
  pub by_keys : sealed ≡ sealed_segment keys sealed.plan
  pub number : entry.number ≡ number_of keys sealed.plan.number
  pub key : entry.key ≡ key_index keys sealed.plan.number

-- entries list segments, one each, in order
abbrev pub ListEach : KeyRotation → List Entry → List SealedSegment → Type 0
ListEach keys [] [] = ⊤
ListEach keys (entry ∷ entries) (s ∷ sealed) = Lists keys entry s × ListEach keys entries sealed
ListEach keys [] (s ∷ sealed) = ⊥
ListEach keys (entry ∷ entries) [] = ⊥
