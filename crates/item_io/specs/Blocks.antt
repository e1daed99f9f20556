-- Items in blocks: a segment with the two playlists that list it, the two last playlists of a rendition, or a master playlist.
use Rattle.std.specs.Prelude.{◌≡◌, true, List, [], ◌∷◌}
use Rattle.playlist_text.specs.Names.{is_name}
use Rattle.item_io.specs.Items.{ItemValue, SegmentItem, MediaItem, FramesItem, MasterItem}

-- whole blocks, each with one name that a rendition may have
abbrev pub AreBlocks : List ItemValue → Type 0
AreBlocks [] = Unit {0}
AreBlocks (SegmentItem s ∷ MediaItem p ∷ FramesItem q ∷ items) = (is_name s.name ≡ true) × (p.name ≡ s.name) × (q.name ≡ s.name) × AreBlocks items
AreBlocks (MediaItem p ∷ FramesItem q ∷ items) = (is_name p.name ≡ true) × (q.name ≡ p.name) × AreBlocks items
AreBlocks (MasterItem text ∷ items) = AreBlocks items
AreBlocks (i ∷ items) = ⊥
