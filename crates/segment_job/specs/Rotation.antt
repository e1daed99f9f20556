-- Which key and vector a segment is sealed under: the keys of a rendition take turns, and a vector is the segment's number,
-- salted where there is a salt (RFC 8216, 4.3.2.4 and 5.2). Numbers go on from run to run.
use Rattle.std.specs.Prelude.{ℕ, ◌+◌, ◌/◌, ◌%◌, ◌≤◌, ◌<◌, List, [], Option, length, slice_index_or}
use Rattle.playlist_text.specs.Vectors.{salted_vector}
use Rattle.limits.specs.declared.TheConstants.{MOST_KEYS}

-- the keys of a rendition in their order, how many segments in a row each of them seals, the salt of the vectors, and the
-- number of the run's first segment
pub record KeyRotation : Type 0 where
  pub keys : List (List ℕ)
  pub period : ℕ
  pub salt : Option (List ℕ)
  pub first : ℕ

-- at least one key and at most 4,096, of which each seals at least one segment in its turn
pub record IsRotation (r : KeyRotation) : Type 0 where
  pub some : 0 < length r.keys
  pub few : length r.keys ≤ MOST_KEYS
  pub turns : 0 < r.period

-- the number of segment n of the run, among those of all runs of the rendition
abbrev pub number_of : KeyRotation → ℕ → ℕ
number_of r n = r.first + n

-- the index of the key of segment n of the run: by their numbers, the keys take turns of a period each, from the first on
abbrev pub key_index : KeyRotation → ℕ → ℕ
key_index r n = number_of r n / r.period % length r.keys

-- its key
abbrev pub key_of : KeyRotation → ℕ → List ℕ
key_of r n = slice_index_or r.keys (key_index r n) []

-- its vector, of its number
abbrev pub vector_of : KeyRotation → ℕ → List ℕ
vector_of r n = salted_vector r.salt (number_of r n)
