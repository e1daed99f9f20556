-- Items in blocks may be put into a folder.
use Rattle.std.proofs.Common.{◌≡◌, ◌≢◌, ℕ, Bool, true, false, not, ◌==◌, List, [], ◌∷◌, ◌++◌, refl, sym, ap, ◌∙◌, subst, get_or, append_assoc, reverse, codes, arith}
use Rattle.std.specs.Fmt.{decimal}
use Rattle.std.proofs.lemmas.List.{append_cancel_left, append_cancel_right, reverse-append}
use Rattle.playlist_text.specs.Names.{is_name, is_name_byte}
use Rattle.folder.specs.Moves.{is_hidden}
use Rattle.folder.specs.Puts.{HasOwnPart, IsServed, MayBePut, Put, staged_after, staged_with}
use Rattle.item_io.specs.Items.{FramesItem, ItemValue, MasterItem, MediaItem, PlaylistValue, SegmentItem, SegmentValue}
use Rattle.item_io.specs.FileNames.{file_name, part_name}
use Rattle.item_io.specs.FolderMoves.{put_of, puts_of}
use Rattle.item_io.specs.Blocks.{AreBlocks}
use Rattle.item_io.proofs.Names.{and-left, and-right, name_bytes}

not-true : (t : Bool) → not t ≡ true → t ≡ false
not-true true n = absurd (cc n)
not-true false n = refl

-- a name begins with no point
shown-name : (name behind : List ℕ) → is_name name ≡ true → is_hidden (name ++ behind) ≡ false
unfolding is_name
shown-name [] behind named = absurd (cc named)
shown-name (b ∷ bs) behind named =
    let may : is_name_byte b ≡ true = and-left _ _ (name_bytes (b ∷ bs) named) in
    not-true (b == 46) (and-right _ _ (and-left _ _ may))

served-segment : (s : SegmentValue) → is_name s.name ≡ true → IsServed (put_of (SegmentItem s))
served-segment s named = record {
  hidden = refl;
  shown = subst (λ (l : List ℕ). is_hidden l ≡ false) (sym (append_assoc (s.name ++ codes ".") (decimal s.number) (codes ".ts") ∙ append_assoc s.name (codes ".") (decimal s.number ++ codes ".ts")))
      (shown-name s.name (codes "." ++ (decimal s.number ++ codes ".ts")) named);
}

served-media : (p : PlaylistValue) → is_name p.name ≡ true → IsServed (put_of (MediaItem p))
served-media p named = record { hidden = refl; shown = shown-name p.name (codes ".m3u8") named }

served-frames : (p : PlaylistValue) → is_name p.name ≡ true → IsServed (put_of (FramesItem p))
served-frames p named = record { hidden = refl; shown = shown-name p.name (codes ".iframes.m3u8") named }

served-master : (text : List ℕ) → IsServed (put_of (MasterItem text))
served-master text = record { hidden = refl; shown = refl }

parts-apart : (a b : ItemValue) → file_name a ≢ file_name b → part_name a ≢ part_name b
parts-apart a b apart same = apart (append_cancel_left (codes ".") (file_name a) (file_name b) (append_cancel_right (codes "." ++ file_name a) (codes "." ++ file_name b) (codes ".part") same))

-- texts that end otherwise
ends-apart : (xs ys : List ℕ) → xs ++ codes ".ts" ≢ ys ++ codes ".m3u8"
ends-apart xs ys same =
    let turned : reverse (codes ".ts") ++ reverse xs ≡ reverse (codes ".m3u8") ++ reverse ys =
    sym (reverse-append xs (codes ".ts")) ∙ ap reverse same ∙ reverse-append ys (codes ".m3u8") in
    let first : 115 ≡ 56 = ap (λ (l : List ℕ). get_or l 0 0) turned in
    omega (arith, first)

segment-media : (s : SegmentValue) (p : PlaylistValue) → file_name (SegmentItem s) ≢ file_name (MediaItem p)
segment-media s p same = ends-apart (s.name ++ codes "." ++ decimal s.number) p.name same

segment-frames : (s : SegmentValue) (p : PlaylistValue) → file_name (SegmentItem s) ≢ file_name (FramesItem p)
segment-frames s p same = ends-apart (s.name ++ codes "." ++ decimal s.number) (p.name ++ codes ".iframes") (same ∙ sym (append_assoc p.name (codes ".iframes") (codes ".m3u8")))

media-frames : (p q : PlaylistValue) → q.name ≡ p.name → file_name (MediaItem p) ≢ file_name (FramesItem q)
media-frames p q named same =
    let ends : codes ".m3u8" ≡ codes ".iframes.m3u8" = append_cancel_left p.name (codes ".m3u8") (codes ".iframes.m3u8") (same ∙ ap (λ (n : List ℕ). n ++ codes ".iframes.m3u8") named) in
    let second : 109 ≡ 105 = ap (λ (l : List ℕ). get_or l 1 0) ends in
    omega (arith, second)

apart-one : (a b : ItemValue) → file_name b ≢ file_name a → HasOwnPart (put_of a) (put_of b ∷ [])
apart-one a b apart = (parts-apart a b (λ same. apart (sym same)), parts-apart b a apart, tt)

apart-two : (a b c : ItemValue) → file_name b ≢ file_name a → file_name c ≢ file_name a → HasOwnPart (put_of a) (put_of b ∷ put_of c ∷ [])
apart-two a b c one two = (parts-apart a b (λ same. one (sym same)), parts-apart b a one, apart-one a c two)

-- they are fit, and end with a block
abbrev pub BlocksFit : List ItemValue → Type 0
BlocksFit items = MayBePut [] (puts_of items) × (staged_after [] (puts_of items) ≡ [])

pub blocks-fit : (items : List ItemValue) → AreBlocks items → BlocksFit items
blocks-fit [] blocks = (tt, refl)
blocks-fit (SegmentItem s ∷ []) blocks = absurd blocks
blocks-fit (SegmentItem s ∷ SegmentItem t ∷ items) blocks = absurd blocks
blocks-fit (SegmentItem s ∷ MediaItem p ∷ []) blocks = absurd blocks
blocks-fit (SegmentItem s ∷ MediaItem p ∷ SegmentItem t ∷ items) blocks = absurd blocks
blocks-fit (SegmentItem s ∷ MediaItem p ∷ MediaItem q ∷ items) blocks = absurd blocks
blocks-fit (SegmentItem s ∷ MediaItem p ∷ FramesItem q ∷ items) blocks =
    let named_p : is_name p.name ≡ true = ap is_name blocks.1 ∙ blocks.0 in
    let named_q : is_name q.name ≡ true = ap is_name blocks.2 ∙ blocks.0 in
    let later = blocks-fit items blocks.3 in (
      (
        served-segment s blocks.0,
        tt,
        (
          served-media p named_p,
          apart-one (MediaItem p) (SegmentItem s) (segment-media s p),
          (served-frames q named_q, apart-two (FramesItem q) (SegmentItem s) (MediaItem p) (segment-frames s q) (media-frames p q (blocks.2 ∙ sym blocks.1)), later.0),
        ),
      ),
      later.1,
    )
blocks-fit (SegmentItem s ∷ MediaItem p ∷ MasterItem text ∷ items) blocks = absurd blocks
blocks-fit (SegmentItem s ∷ FramesItem p ∷ items) blocks = absurd blocks
blocks-fit (SegmentItem s ∷ MasterItem text ∷ items) blocks = absurd blocks
blocks-fit (MediaItem p ∷ []) blocks = absurd blocks
blocks-fit (MediaItem p ∷ SegmentItem s ∷ items) blocks = absurd blocks
blocks-fit (MediaItem p ∷ MediaItem q ∷ items) blocks = absurd blocks
blocks-fit (MediaItem p ∷ FramesItem q ∷ items) blocks =
    let named_q : is_name q.name ≡ true = ap is_name blocks.1 ∙ blocks.0 in
    let later = blocks-fit items blocks.2 in
    ((served-media p blocks.0, tt, (served-frames q named_q, apart-one (FramesItem q) (MediaItem p) (media-frames p q blocks.1), later.0)), later.1)
blocks-fit (MediaItem p ∷ MasterItem text ∷ items) blocks = absurd blocks
blocks-fit (FramesItem p ∷ items) blocks = absurd blocks
blocks-fit (MasterItem text ∷ items) blocks =
    let later = blocks-fit items blocks in
    ((served-master text, tt, later.0), later.1)

-- a prefix of what is fit
fit-front : (staged puts more : List Put) → MayBePut staged (puts ++ more) → MayBePut staged puts
fit-front staged [] more fit = tt
fit-front staged (p ∷ puts) more fit = (fit.0, fit.1, fit-front (staged_with p.ends staged p) puts more fit.2)

pub puts-append : (items more : List ItemValue) → puts_of (items ++ more) ≡ puts_of items ++ puts_of more
puts-append [] more = refl
puts-append (i ∷ items) more = ap (λ (l : List Put). put_of i ∷ l) (puts-append items more)

pub given-fit : (all given rest : List ItemValue) → AreBlocks all → all ≡ given ++ rest → MayBePut [] (puts_of given)
given-fit all given rest blocks is =
    let fit = (blocks-fit all blocks).0 in
    fit-front [] (puts_of given) (puts_of rest) (subst (λ (l : List Put). MayBePut [] l) (ap puts_of is ∙ puts-append given rest) fit)
