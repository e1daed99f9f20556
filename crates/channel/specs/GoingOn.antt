-- A ladder whose renditions go on behind what an earlier run left.
use Rattle.std.specs.Prelude.{◌≡◌, ℕ, ◌<◌, Option, Some, List, [], ◌∷◌, map, slice_get}
use Rattle.ladder_items.specs.Ladder.{RenditionValue, Ladder}
use Rattle.resume.specs.Restoring.{RestoredValue}
use Rattle.channel_folder.specs.declared.fault.WhyNot.TheVariants.{Limit}
use Rattle.channel_folder.specs.Reopened.{ReopenedValue, MayGo, gone_on}
use Rattle.channel.specs.declared.fault.ResumingFault.{ResumingFault}
use Rattle.channel.specs.declared.fault.ResumingFault.TheVariants.{Unread, Outlet, NoMemory, Not, OtherKeys}

-- a rendition behind this: its next segment has the next number
abbrev pub behind_of : RenditionValue → RestoredValue → RenditionValue
behind_of rendition one = record rendition { keys = record rendition.keys { first = one.next }; gone = one.gone; earlier = one.earlier }

-- each behind its own
abbrev pub all_behind : List RenditionValue → List RestoredValue → List RenditionValue
all_behind renditions [] = renditions
all_behind [] (one ∷ each) = []
all_behind (rendition ∷ renditions) (one ∷ each) = behind_of rendition one ∷ all_behind renditions each

-- A ladder whose renditions go on behind what was found of them, each of its own. One without playlists begins beside the others, and
-- one that had fewer discontinuities than another begins its list anew.
abbrev pub ladder_behind : Ladder → ReopenedValue → Ladder
ladder_behind ladder reopened = record ladder { renditions = all_behind ladder.renditions (map (gone_on reopened.most) reopened.found) }

-- the numbers of each rendition aren't past the last
abbrev pub AllGo : List (Option RestoredValue) → Option ℕ → Type 0
AllGo found most = (r : ℕ) (one : Option RestoredValue) → slice_get found r ≡ Some one → MayGo most one

-- rendition r is the first of which they would be
pub record IsPastLimit (found : List (Option RestoredValue)) (most : Option ℕ) (r : ℕ) : Type 0 where
  pub one : Option RestoredValue
  pub is : slice_get found r ≡ Some one
  pub past : ¬ MayGo most one
  pub first : (k : ℕ) (other : Option RestoredValue) → k < r → slice_get found k ≡ Some other → MayGo most other

-- that is why the ladder doesn't go on
abbrev pub IsPastFault : List (Option RestoredValue) → Option ℕ → ResumingFault → Type 0
IsPastFault found most (Not r why) = (why ≡ Limit) × IsPastLimit found most r
IsPastFault found most Unread = ⊥
IsPastFault found most Outlet = ⊥
IsPastFault found most NoMemory = ⊥
IsPastFault found most (OtherKeys r key) = ⊥
