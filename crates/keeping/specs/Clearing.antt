-- Behind which blocks all went that might go.
use Rattle.std.specs.Prelude.{◌≡◌, ◌⊎◌, ℕ, ◌<◌, ◌≤◌, Bool, true, false, List, [], ◌∷◌, ◌++◌, length}
use Rattle.std.specs.List.{Contains}
use Rattle.item_io.specs.Items.{ItemValue, PlaylistValue, SegmentItem, MediaItem, FramesItem, MasterItem}
use Rattle.retention.specs.Steps.{IsKeptFrom}
use Rattle.keeping.specs.Keepings.{KeepingValue, keeping_at, texts_of}

-- All of its segments went that may go; and once one had, so did all older ones, or 64 of them at least.
pub record IsCleared (k : KeepingValue) : Type 0 where
  pub went : IsKeptFrom k.kept.least k.kept.steps k.gone
  pub older : 0 < k.gone → (k.swept ≡ length k.older) ⊎ (64 ≤ k.swept)

-- the renditions of which a segment couldn't be removed, and that of this item, where it is so of it
abbrev pub missed_with : Bool → ItemValue → List ℕ → List ℕ
missed_with false item missed = missed
missed_with true (SegmentItem s) missed = missed
missed_with true (MediaItem p) missed = missed
missed_with true (FramesItem p) missed = missed ++ p.rendition ∷ []
missed_with true (MasterItem text) missed = missed

-- Of these items an I-frame playlist ends a block, and behind it no media playlist of its rendition tells a segment more: the rendition
-- is cleared, unless it is one of those of which a segment couldn't be removed.
abbrev pub AreCleared : List ℕ → List KeepingValue → List ItemValue → Type 0
AreCleared missed renditions items = (front rest : List ItemValue) (p : PlaylistValue) → items ≡ front ++ FramesItem p ∷ rest → texts_of p.rendition rest ≡ [] →
    p.rendition < length renditions → ¬ Contains missed p.rendition → IsCleared (keeping_at renditions p.rendition)
