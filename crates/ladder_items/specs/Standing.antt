-- Which fault stands where no rendition goes on.
use Rattle.std.specs.Prelude.{◌≡◌, ℕ, ◌<◌, List, Some, None, slice_get}
use Rattle.ingest.specs.declared.lane.Lane.{Lane}
use Rattle.ladder_items.specs.declared.fault.PackFault.{PackFault}
use Rattle.ladder_items.specs.Packed.{told_of}

-- this rendition stopped in a way that the fault tells, and none before it in a way that a fault tells
abbrev pub IsFirstStanding : List Lane → PackFault → Type 0
IsFirstStanding lanes fault =
    (r : ℕ) × (lane : Lane) × (slice_get lanes r ≡ Some lane) × (told_of r lane.stop ≡ Some fault)
    × ((k : ℕ) (earlier : Lane) → k < r → slice_get lanes k ≡ Some earlier → told_of k earlier.stop ≡ None)

-- no fault stands: each rendition came to its good end
abbrev pub NoneStands : List Lane → Type 0
NoneStands lanes = (k : ℕ) (lane : Lane) → slice_get lanes k ≡ Some lane → told_of k lane.stop ≡ None
