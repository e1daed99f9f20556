-- What stands under the names of playlists.
use Rattle.std.specs.Prelude.{not, drop, ◌==◌, ◌&&◌}
use Rattle.std.specs.Fmt.{decimal}
use Rattle.std.specs.List.{list_all}
use Rattle.std.specs.Str.{bytes_eq}
use Rattle.std.proofs.Common.{arith, ◌≡◌, ◌≢◌, ℕ, Bool, true, false, Option, None, Some, List, [], ◌∷◌, ◌++◌, refl, sym, ap, ap₂, ◌∙◌, subst, get_or, append_assoc, reverse, codes}
use Rattle.std.proofs.lemmas.List.{append_cancel_right, reverse-append}
use Rattle.std.proofs.lemmas.List.Folds.{list_all-append}
use Rattle.std.proofs.lemmas.Slice.Eq.{bytes_eq-Decides}
use Rattle.playlist_text.specs.Names.{is_name, is_name_byte}
use Rattle.playlist_text.specs.Uris.{master_uri}
use Rattle.folder.specs.Moves.{Files, is_hidden}
use Rattle.folder.specs.Puts.{Put, after_puts, staged_after, staged_with}
use Rattle.folder.proofs.Kills.{staged_after-append}
use Rattle.item_io.specs.Items.{ItemValue, PlaylistValue, FramesItem, MasterItem, MediaItem, SegmentItem}
use Rattle.item_io.specs.FileNames.{segment_file_name}
use Rattle.item_io.specs.FolderMoves.{put_of, puts_of}
use Rattle.item_io.proofs.Fitting.{puts-append}
use Rattle.item_io.proofs.Names.{and-left, and-right, name_bytes}
use Rattle.keeping.specs.Keepings.{AllBeginBehind, BeginsBehind, IsUnlisted}
use Rattle.keeping.specs.InPlace.{FramesBeginBehind, FramesFollow, FramesFollowOn, HasIn, frames_file, media_file}
use Rattle.keeping.proofs.Standing.{EachOf, last-in}
use Rattle.keeping.proofs.Unlisting.{all-begin-append}

-- texts that end otherwise
ends-apart : (xs ys : List ℕ) → xs ++ codes ".ts" ≢ ys ++ codes ".m3u8"
ends-apart xs ys same =
    let turned : reverse (codes ".ts") ++ reverse xs ≡ reverse (codes ".m3u8") ++ reverse ys =
    sym (reverse-append xs (codes ".ts")) ∙ ap reverse same ∙ reverse-append ys (codes ".m3u8") in
    let first : 115 ≡ 56 = ap (λ (l : List ℕ). get_or l 0 0) turned in
    omega (arith, first)

pub segment-media : (name other : List ℕ) (number : ℕ) → segment_file_name name number ≢ media_file other
segment-media name other number same = ends-apart (name ++ codes "." ++ decimal number) other same

pub segment-frames : (name other : List ℕ) (number : ℕ) → segment_file_name name number ≢ frames_file other
segment-frames name other number same = ends-apart (name ++ codes "." ++ decimal number) (other ++ codes ".iframes") (same ∙ sym (append_assoc other (codes ".iframes") (codes ".m3u8")))

-- a name has no point in it
no-point : (other name : List ℕ) → list_all is_name_byte name ≡ true → other ++ codes ".iframes" ≢ name
no-point other name bytes is =
    let all : list_all is_name_byte (other ++ codes ".iframes") ≡ true = subst (λ (l : List ℕ). list_all is_name_byte l ≡ true) (sym is) bytes in
    let ends : (is_name_byte 46 && list_all is_name_byte (codes "iframes")) ≡ true = and-right (list_all is_name_byte other) (list_all is_name_byte (codes ".iframes")) (sym (list_all-append is_name_byte other (codes ".iframes")) ∙ all) in
    let point : is_name_byte 46 ≡ true = and-left (is_name_byte 46) (list_all is_name_byte (codes "iframes")) ends in
    cc point

frames-apart : (other name : List ℕ) → list_all is_name_byte name ≡ true → frames_file other ≢ media_file name
frames-apart other name bytes same =
    no-point other name bytes (append_cancel_right (other ++ codes ".iframes") name (codes ".m3u8") (append_assoc other (codes ".iframes") (codes ".m3u8") ∙ same))

-- nor is it that of the master playlist
master-media : (name : List ℕ) → is_name name ≡ true → master_uri ≢ media_file name
unfolding is_name
master-media name named same =
    let is : codes "master" ≡ name = append_cancel_right (codes "master") name (codes ".m3u8") same in
    let other : not (bytes_eq name (codes "master")) ≡ true = and-right _ _ named in
    let equal : bytes_eq name (codes "master") ≡ true = (bytes_eq-Decides name (codes "master")).1 (sym is) in
    cc (other, equal)

master-frames : (name : List ℕ) → master_uri ≢ frames_file name
master-frames name same = frames-apart name (codes "master") refl (sym same)

not-true : (t : Bool) → not t ≡ true → t ≡ false
not-true true n = absurd (cc n)
not-true false n = refl

pub shown-name : (name behind : List ℕ) → is_name name ≡ true → is_hidden (name ++ behind) ≡ false
unfolding is_name
shown-name [] behind named = absurd (cc named)
shown-name (b ∷ bs) behind named =
    let may : is_name_byte b ≡ true = and-left _ _ (name_bytes (b ∷ bs) named) in
    not-true (b == 46) (and-right _ _ (and-left _ _ may))

-- the media playlists of this name among some items
media-each : (name : List ℕ) (number : ℕ) → is_name name ≡ true → (items : List ItemValue) → AllBeginBehind name number items → EachOf (media_file name) (BeginsBehind number) (puts_of items)
media-each name number named [] begin = tt
media-each name number named (SegmentItem s ∷ items) begin = (λ same. absurd (segment-media s.name name s.number same), media-each name number named items begin)
media-each name number named (MediaItem p ∷ items) begin = (λ same. begin.0 (append_cancel_right p.name name (codes ".m3u8") same), media-each name number named items begin.1)
media-each name number named (FramesItem p ∷ items) begin = (λ same. absurd (frames-apart p.name name (name_bytes name named) same), media-each name number named items begin)
media-each name number named (MasterItem text ∷ items) begin = (λ same. absurd (master-media name named same), media-each name number named items begin)

-- the I-frame playlists of this name, where the media playlist before is that
abbrev Begun : List ℕ → ℕ → Option PlaylistValue → Type 0
Begun name number None = Unit {0}
Begun name number (Some p) = p.name ≡ name → BeginsBehind number p.text

frames-each : (name : List ℕ) (number : ℕ) (before : Option PlaylistValue) (items more : List ItemValue) → FramesFollowOn before (items ++ more) → AllBeginBehind name number items → Begun name number before →
    EachOf (frames_file name) (FramesBeginBehind number) (puts_of items)
frames-each name number None [] more follow begin begun = tt
frames-each name number None (SegmentItem s ∷ items) more follow begin begun =
    (λ same. absurd (segment-frames s.name name s.number same), frames-each name number None items more follow begin tt)
frames-each name number None (MediaItem p ∷ items) more follow begin begun =
    (λ same. absurd (frames-apart name p.name (name_bytes p.name follow.0) (sym same)), frames-each name number (Some p) items more follow.1 begin.1 begin.0)
frames-each name number None (FramesItem q ∷ items) more follow begin begun = absurd follow
frames-each name number None (MasterItem text ∷ items) more follow begin begun = (λ same. absurd (master-frames name same), frames-each name number None items more follow begin tt)
frames-each name number (Some p) [] more follow begin begun = tt
frames-each name number (Some p) (SegmentItem s ∷ items) more follow begin begun = absurd follow
frames-each name number (Some p) (MediaItem m ∷ items) more follow begin begun = absurd follow
frames-each name number (Some p) (FramesItem q ∷ items) more follow begin begun = (
  λ same.
      let named : q.name ≡ name = append_cancel_right q.name name (codes ".iframes.m3u8") same in
      record { media = p.text; begins = begun (sym follow.0 ∙ named); no_more = follow.1 },
  frames-each name number None items more follow.2 begin tt,
)
frames-each name number (Some p) (MasterItem text ∷ items) more follow begin begun = absurd follow

-- what follows a media playlist
follow-at : (before : Option PlaylistValue) (first : List ItemValue) (p : PlaylistValue) (more : List ItemValue) → FramesFollowOn before (first ++ MediaItem p ∷ more) → FramesFollowOn (Some p) more
follow-at None [] p more follow = follow.1
follow-at None (SegmentItem s ∷ first) p more follow = follow-at None first p more follow
follow-at None (MediaItem m ∷ first) p more follow = follow-at (Some m) first p more follow.1
follow-at None (FramesItem q ∷ first) p more follow = absurd follow
follow-at None (MasterItem text ∷ first) p more follow = follow-at None first p more follow
follow-at (Some x) [] p more follow = absurd follow
follow-at (Some x) (SegmentItem s ∷ first) p more follow = absurd follow
follow-at (Some x) (MediaItem m ∷ first) p more follow = absurd follow
follow-at (Some x) (FramesItem q ∷ first) p more follow = follow-at None first p more follow.2
follow-at (Some x) (MasterItem text ∷ first) p more follow = absurd follow

pub not-empty : (staged : List Put) (p : Put) → staged ++ p ∷ [] ≡ [] → ⊥
not-empty [] p is = cc is
not-empty (q ∷ staged) p is = cc is

-- files of which the last one is open aren't whole blocks
pub open-last : (puts : List Put) (p : Put) → p.ends ≡ false → staged_after [] (puts ++ p ∷ []) ≡ [] → ⊥
open-last puts p opens whole =
    let staged = staged_after [] puts in
    not-empty staged p (sym (ap (λ (t : Bool). staged_with t staged p) opens) ∙ sym (staged_after-append [] puts (p ∷ [])) ∙ whole)

-- the media playlist behind some items, and further ones, that don't list a segment
pub media-in : (name : List ℕ) (number : ℕ) (put given : List ItemValue) → IsUnlisted name number put → AllBeginBehind name number given → (files : Files) →
    HasIn (after_puts files (puts_of (put ++ given))) (media_file name) (BeginsBehind number)
media-in name number put given u later files =
    let more = u.more ++ given in
    let split : put ++ given ≡ u.first ++ MediaItem u.playlist ∷ more = ap (λ (l : List ItemValue). l ++ given) u.all ∙ append_assoc u.first (MediaItem u.playlist ∷ u.more) given in
    subst (λ (l : List Put). HasIn (after_puts files l) (media_file name) (BeginsBehind number)) (sym (ap puts_of split ∙ puts-append u.first (MediaItem u.playlist ∷ more)))
    (last-in (media_file name) (BeginsBehind number) (puts_of u.first) (put_of (MediaItem u.playlist)) (puts_of more) (ap media_file u.named) (u.behind.0 u.named)
    (media-each name number u.served more (all-begin-append name number u.more given u.behind.1 later)) files)

-- the I-frame playlist stands behind the last media playlist among whole blocks
frames-behind : (name : List ℕ) (number : ℕ) (first more given rest : List ItemValue) (p : PlaylistValue) → FramesFollow ((first ++ MediaItem p ∷ (more ++ given)) ++ rest) →
    staged_after [] (puts_of (first ++ MediaItem p ∷ more)) ≡ [] → p.name ≡ name → BeginsBehind number p.text → AllBeginBehind name number (more ++ given) → (files : Files) →
    HasIn (after_puts files (puts_of (first ++ MediaItem p ∷ (more ++ given)))) (frames_file name) (FramesBeginBehind number)
frames-behind name number first [] given rest p follow whole named begins later files =
    absurd (open-last (puts_of first) (put_of (MediaItem p)) refl (sym (ap (staged_after []) (puts-append first (MediaItem p ∷ []))) ∙ whole))
frames-behind name number first (FramesItem q ∷ more) given rest p follow whole named begins later files =
    let f = follow-at None first p ((FramesItem q ∷ (more ++ given)) ++ rest) (subst FramesFollow (append_assoc first (MediaItem p ∷ FramesItem q ∷ (more ++ given)) rest) follow) in
    let front = puts_of first ++ put_of (MediaItem p) ∷ [] in
    let split : puts_of (first ++ MediaItem p ∷ FramesItem q ∷ (more ++ given)) ≡ front ++ put_of (FramesItem q) ∷ puts_of (more ++ given) =
    puts-append first (MediaItem p ∷ FramesItem q ∷ (more ++ given)) ∙ sym (append_assoc (puts_of first) (put_of (MediaItem p) ∷ []) (put_of (FramesItem q) ∷ puts_of (more ++ given))) in
    subst (λ (l : List Put). HasIn (after_puts files l) (frames_file name) (FramesBeginBehind number)) (sym split)
    (last-in (frames_file name) (FramesBeginBehind number) front (put_of (FramesItem q)) (puts_of (more ++ given)) (ap frames_file (f.0 ∙ named))
    (record { media = p.text; begins = begins; no_more = f.1 }) (frames-each name number None (more ++ given) rest f.2 later tt) files)
frames-behind name number first (SegmentItem s ∷ more) given rest p follow whole named begins later files =
    absurd (follow-at None first p ((SegmentItem s ∷ (more ++ given)) ++ rest) (subst FramesFollow (append_assoc first (MediaItem p ∷ SegmentItem s ∷ (more ++ given)) rest) follow))
frames-behind name number first (MediaItem m ∷ more) given rest p follow whole named begins later files =
    absurd (follow-at None first p ((MediaItem m ∷ (more ++ given)) ++ rest) (subst FramesFollow (append_assoc first (MediaItem p ∷ MediaItem m ∷ (more ++ given)) rest) follow))
frames-behind name number first (MasterItem text ∷ more) given rest p follow whole named begins later files =
    absurd (follow-at None first p ((MasterItem text ∷ (more ++ given)) ++ rest) (subst FramesFollow (append_assoc first (MediaItem p ∷ MasterItem text ∷ (more ++ given)) rest) follow))

pub frames-in : (name : List ℕ) (number : ℕ) (put given rest : List ItemValue) → FramesFollow ((put ++ given) ++ rest) → staged_after [] (puts_of put) ≡ [] → IsUnlisted name number put →
    AllBeginBehind name number given → (files : Files) → HasIn (after_puts files (puts_of (put ++ given))) (frames_file name) (FramesBeginBehind number)
frames-in name number put given rest follow whole u later files =
    let split : put ++ given ≡ u.first ++ MediaItem u.playlist ∷ (u.more ++ given) =
    ap (λ (l : List ItemValue). l ++ given) u.all ∙ append_assoc u.first (MediaItem u.playlist ∷ u.more) given in
    subst (λ (l : List ItemValue). HasIn (after_puts files (puts_of l)) (frames_file name) (FramesBeginBehind number)) (sym split)
    (frames-behind name number u.first u.more given rest u.playlist (subst (λ (l : List ItemValue). FramesFollow (l ++ rest)) split follow)
    (subst (λ (l : List ItemValue). staged_after [] (puts_of l) ≡ []) u.all whole) u.named (u.behind.0 u.named) (all-begin-append name number u.more given u.behind.1 later) files)

-- the first files of some items are those of the first of these
pub puts-front : (items : List ItemValue) (front back : List Put) → puts_of items ≡ front ++ back → (given : List ItemValue) × (rest : List ItemValue) × (items ≡ given ++ rest) × (front ≡ puts_of given)
puts-front items [] back is = ([], items, refl, refl)
puts-front [] (p ∷ front) back is = absurd (cc is)
puts-front (i ∷ items) (p ∷ front) back is =
    let first : put_of i ≡ p = ap (λ (l : List Put). get_or l 0 p) is in
    let others : puts_of items ≡ front ++ back = ap (λ (l : List Put). drop 1 l) is in
    let r = puts-front items front back others in
    (i ∷ r.0, r.1, ap (λ (l : List ItemValue). i ∷ l) r.2, ap₂ (λ (a : Put) (l : List Put). a ∷ l) (sym first) r.3)

pub all-begin-front : (name : List ℕ) (number : ℕ) (given rest : List ItemValue) → AllBeginBehind name number (given ++ rest) → AllBeginBehind name number given
all-begin-front name number [] rest begin = tt
all-begin-front name number (SegmentItem s ∷ given) rest begin = all-begin-front name number given rest begin
all-begin-front name number (MediaItem p ∷ given) rest begin = (begin.0, all-begin-front name number given rest begin.1)
all-begin-front name number (FramesItem p ∷ given) rest begin = all-begin-front name number given rest begin
all-begin-front name number (MasterItem text ∷ given) rest begin = all-begin-front name number given rest begin
