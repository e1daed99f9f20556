-- Why variants have no master playlist.
use Rattle.std.specs.Prelude.{◌≡◌, ℕ, ◌<◌, Bool, false, not, ◌&&◌, ◌||◌, nat_le, List, [], ◌∷◌, map, length, slice_index_or, IsTrue, Option, Some, None, if◌then◌else◌}
use Rattle.std.specs.List.{list_any, Any}
use Rattle.std.specs.Str.{bytes_eq}
use Rattle.playlist_text.specs.Names.{is_name, is_codecs}
use Rattle.master_playlist.specs.Listed.{Listed}
use Rattle.master_playlist.specs.declared.fault.MasterFault.{MasterFault}
use Rattle.master_playlist.specs.declared.fault.MasterFault.TheVariants.{BadName, SameName, BadCodecs, BadResolution, NoMemory}
use Rattle.limits.specs.declared.TheConstants.{LEAST, MOST_PIXELS}

-- the numbers of the faults, least first
abbrev pub number : MasterFault → ℕ
number BadName = 1
number SameName = 2
number BadCodecs = 3
number BadResolution = 4
number NoMemory = 5

-- a side is from 1 to 16,384 pixels
abbrev pub is_side : ℕ → Bool
is_side side = nat_le LEAST side && nat_le side MOST_PIXELS

abbrev pub has_resolution : Listed → Bool
has_resolution v = is_side v.width && is_side v.height

-- the names of all variants
abbrev pub names : List Listed → List (List ℕ)
names vs = map (λ v. v.name) vs

-- two variants have one name
abbrev pub AreSame : List Listed → ℕ → ℕ → Type 0
AreSame vs i j = (i < j) × (j < length vs) × (slice_index_or (names vs) i [] ≡ slice_index_or (names vs) j [])

-- the fault stands somewhere among the variants
abbrev pub Stands : MasterFault → List Listed → Type 0
Stands BadName vs = Any (λ v. IsTrue (not (is_name v.name))) vs
Stands SameName vs = (i : ℕ) × (j : ℕ) × AreSame vs i j
Stands BadCodecs vs = Any (λ v. IsTrue (not (is_codecs v.codecs))) vs
Stands BadResolution vs = Any (λ v. IsTrue (not (has_resolution v))) vs
Stands NoMemory vs = ⊥

-- The same, tested.
abbrev pub has_bad_name : List Listed → Bool
has_bad_name vs = list_any (λ v. not (is_name v.name)) vs

-- one of the variants has that name
abbrev pub has_name : List ℕ → List Listed → Bool
has_name name vs = list_any (λ v. bytes_eq v.name name) vs

unfoldable pub has_same_names : List Listed → Bool
has_same_names [] = false
has_same_names (v ∷ vs) = has_name v.name vs || has_same_names vs

abbrev pub has_bad_codecs : List Listed → Bool
has_bad_codecs vs = list_any (λ v. not (is_codecs v.codecs)) vs

abbrev pub has_bad_resolution : List Listed → Bool
has_bad_resolution vs = list_any (λ v. not (has_resolution v)) vs

-- the fault of the least number, if one stands
unfoldable pub fault_of : List Listed → Option MasterFault
fault_of vs =
    if has_bad_name vs then Some BadName
    else (if has_same_names vs then Some SameName
    else (if has_bad_codecs vs then Some BadCodecs
    else (if has_bad_resolution vs then Some BadResolution
    else None)))
