-- When a rendition's last segment was seen first.
use Rattle.std.specs.Prelude.{ℕ, List, ◌==◌, if◌then◌else◌, get_or}
use Rattle.metrics.specs.declared.seen.Sighting.{Sighting}

-- as long as there are no more segments, what was seen stands
abbrev pub again : Sighting → ℕ → ℕ → Sighting
again seen count now = if count == seen.count then seen else record { count = count; at = now }

abbrev pub unseen : Sighting
unseen = record { count = 0; at = 0 }

-- that of rendition r, seen with its count of these
abbrev pub again_at : List Sighting → List ℕ → ℕ → ℕ → Sighting
again_at seen counts now r = again (get_or seen r unseen) (get_or counts r 0) now
