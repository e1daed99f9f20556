-- Which buffer a segment is sealed in.
use Rattle.std.specs.Prelude.{ℕ, ◌+◌, ◌-◌, ◌<◌, ◌≤◌, ◌^◌, if◌then◌else◌, nat_lt, List, length, slice_index_or}

-- how badly a buffer with so much room fits so many bytes: by the room that it has too much, and one with too little is worse than any with enough
abbrev pub misfit : (bytes room : ℕ) → ℕ
misfit bytes room = if nat_lt room bytes then 2 ^ 64 + (bytes - room) else room - bytes

-- the buffer at i is the best of those with so much room: none fits less badly
pub record IsBestAt (bytes : ℕ) (rooms : List ℕ) (i : ℕ) : Type 0 where
  pub within : i < length rooms
  pub best : (k : ℕ) → k < length rooms → misfit bytes (slice_index_or rooms i 0) ≤ misfit bytes (slice_index_or rooms k 0)
