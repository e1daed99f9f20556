-- The numbers of discontinuities in the renditions of a ladder (RFC 8216, 6.2.4: those of matching content match).
use Rattle.std.specs.Prelude.{◌≡◌, ⊤, ℕ, ◌+◌, ◌<◌, ◌≤◌, ◌^◌, max, nat_lt, Bool, true, false, if◌then◌else◌, List, [], ◌∷◌, Option, Some, None, slice_get, unwrap_or}
use Rattle.media_playlist.specs.declared.row.Gone.{Gone}
use Rattle.media_playlist.specs.Listed.{discontinuity_count, frame_count, nothing_gone}
use Rattle.ladder_items.specs.declared.settings.Kind.{Kind}
use Rattle.ladder_items.specs.declared.settings.Kind.TheVariants.{Live, Event}
use Rattle.limits.specs.declared.TheConstants.{LAST_SEGMENT}
use Rattle.resume.specs.Restoring.{RestoredValue}

-- how many discontinuities a rendition had so far
abbrev pub breaks : RestoredValue → ℕ
breaks r = r.gone.discontinuities + discontinuity_count r.earlier

-- Two renditions of a ladder go on together. Those of a live ladder always do. An event lists all segments and numbers their
-- discontinuities from 0 on: either both have playlists, and had as many discontinuities, or neither has.
abbrev pub GoTogether : Kind → Option RestoredValue → Option RestoredValue → Type 0
GoTogether Live a b = ⊤
GoTogether Event (Some r) (Some s) = breaks r ≡ breaks s
GoTogether Event None None = ⊤
GoTogether Event (Some r) None = ⊥
GoTogether Event None (Some s) = ⊥

-- any two go on together
abbrev pub AreEven : Kind → List (Option RestoredValue) → Type 0
AreEven kind found = (i j : ℕ) (a b : Option RestoredValue) → slice_get found i ≡ Some a → slice_get found j ≡ Some b → GoTogether kind a b

-- rendition r is the first that doesn't go with one before it
pub record IsUneven (kind : Kind) (found : List (Option RestoredValue)) (r : ℕ) : Type 0 where
  pub before : (i j : ℕ) (a b : Option RestoredValue) → i < r → j < r → slice_get found i ≡ Some a → slice_get found j ≡ Some b →
      GoTogether kind a b
  pub other : ℕ
  pub is_before : other < r
  pub at_other : Option RestoredValue
  pub at_r : Option RestoredValue
  pub other_is : slice_get found other ≡ Some at_other
  pub r_is : slice_get found r ≡ Some at_r
  pub apart : ¬ GoTogether kind at_other at_r

-- the most discontinuities that some renditions had, and one more rendition
abbrev pub most_with : Option RestoredValue → Option ℕ → Option ℕ
most_with None most = most
most_with (Some r) most = Some (max (breaks r) (unwrap_or most 0))

-- the most discontinuities that a rendition had of those with playlists
unfoldable pub most_breaks : List (Option RestoredValue) → Option ℕ
most_breaks [] = None
most_breaks (one ∷ found) = most_with one (most_breaks found)

-- a rendition had fewer than another
abbrev pub lags : Option ℕ → RestoredValue → Bool
lags None r = false
lags (Some most) r = nat_lt (breaks r) most

-- The rendition begins its list anew: its next segment keeps its number and is the first that is listed, and as many discontinuities
-- came before it as before those of the others.
abbrev pub anew : ℕ → RestoredValue → RestoredValue
anew most r = record {
  gone = record { rows = r.next; frames = r.gone.frames + frame_count r.earlier; discontinuities = most };
  earlier = [];
  next = r.next;
}

-- what a rendition goes on behind, beside others of which one had the most discontinuities
abbrev pub beside : Option ℕ → RestoredValue → RestoredValue
beside most r = if lags most r then anew (unwrap_or most 0) r else r

-- the numbers of a list that begins anew aren't past the last
abbrev pub MayBeAnew : ℕ → RestoredValue → Type 0
MayBeAnew most r = (most ≤ LAST_SEGMENT) × (r.gone.frames + frame_count r.earlier ≤ 2 ^ 126)

abbrev pub MayGoBeside : Option ℕ → RestoredValue → Type 0
MayGoBeside most r = lags most r ≡ true → MayBeAnew (unwrap_or most 0) r

-- What came before the first segment of a rendition without playlists: nothing in a first run; else no segment, but a
-- discontinuity more than the others had so far, so that its first one has the number of the others' next ones.
abbrev pub gone_at_first : Option ℕ → Gone
gone_at_first None = nothing_gone
gone_at_first (Some count) = record { rows = 0; frames = 0; discontinuities = count + 1 }
