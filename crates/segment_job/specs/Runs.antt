-- The runs of a rendition that goes on: numbers, and so vectors, go on from run to run.
use Rattle.std.specs.Prelude.{◌≡◌, ℕ, ◌≤◌, List, [], ◌∷◌}
use Rattle.segment_job.specs.Rotation.{KeyRotation, number_of}

-- a run: its keys, and how many segments it has sealed
pub record KeyRun : Type 0 where
  pub keys : KeyRotation
  pub count : ℕ

-- A later run goes on behind so many segments of an earlier one, under the same salt. Its keys and their period may be
-- others.
pub record GoesOnBehind (old : KeyRotation) (count : ℕ) (new : KeyRotation) : Type 0 where
  pub salt : new.salt ≡ old.salt
  pub first : number_of old count ≤ new.first

-- each run goes on behind the one before it
abbrev pub GoOn : KeyRun → List KeyRun → Type 0
GoOn run [] = Unit {0}
GoOn run (next ∷ runs) = GoesOnBehind run.keys run.count next.keys × GoOn next runs
