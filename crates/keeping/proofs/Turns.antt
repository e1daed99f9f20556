-- Behind which items segments go.
use Rattle.std.specs.Prelude.{not, take}
use Rattle.std.specs.List.{Contains}
use Rattle.std.proofs.Common.{arith, ◌≡◌, ℕ, zero, suc, ◌+◌, ◌<◌, Bool, true, false, List, [], ◌∷◌, ◌++◌, length, map, refl, sym, ap, ◌∙◌, subst, inl, inr, append-nil, append_assoc}
use Rattle.std.proofs.lemmas.List.{append_cancel_left, take-append-le, take_all}
use Rattle.std.proofs.lemmas.List.Elements.{Contains-append_cases, Contains-append_right}
use Rattle.folder.specs.Moves.{Looked, Move, Remove, Rename, Sync, Write, is_hidden}
use Rattle.folder.specs.Puts.{staged_after}
use Rattle.folder.specs.Pruning.{counted, other_moves, pruned_names, prunings, prunings_from, unless_hidden, unless_pruning, with_pruning}
use Rattle.folder.specs.Syncing.{moves_when}
use Rattle.folder.proofs.Kills.{staged_after-append}
use Rattle.folder.proofs.OtherMoves.{other_moves-append, prunings-append}
use Rattle.item_io.specs.Items.{ItemValue, PlaylistValue, FramesItem, MasterItem, MediaItem, SegmentItem}
use Rattle.item_io.specs.FileNames.{is_named}
use Rattle.item_io.specs.FolderMoves.{puts_of}
use Rattle.item_io.proofs.Fitting.{puts-append}
use Rattle.keeping.specs.Keepings.{AllBeginBehind, AreGone, AreNotedBy, AreUnlisted, ComesInTurn, GoBehind, IsPassed, IsUnlisted, KeepingValue, Stay, keeping_at}
use Rattle.keeping.specs.InPlace.{WentInTurn}
use Rattle.keeping.specs.Turns.{AreInTurn}
use Rattle.keeping.proofs.Stopping.{moves-append}
use Rattle.keeping.proofs.Telling.{gone-all-same, noted-all-same}
use Rattle.keeping.proofs.Unlisting.{all-begin-append, begins, unlisted-behind, unlisted-put}
use Rattle.keeping.proofs.Keeps.{gone-behind, gone-still}

abbrev Pruned : Type 0
Pruned = ℕ × List ℕ

-- the first of some
first-of : (x : Pruned) (xs : List Pruned) → Contains (x ∷ xs) x
first-of x xs = (0, omega arith, refl)

one-only : (x y : Pruned) → Contains (x ∷ []) y → x ≡ y
one-only x y (zero, within, is) = is
one-only x y (suc k, within, is) = absurd (omega (arith, within))

-- what is among them has its name among those that were taken away
removed-name : (t : Bool) (count c : ℕ) (m n : List ℕ) (moves : List Move) → ((d : ℕ) → Contains (prunings_from d moves) (c, n) → Contains (pruned_names moves) n) →
    Contains (with_pruning t count m (prunings_from (counted t count) moves)) (c, n) → Contains (unless_hidden t m (pruned_names moves)) n
removed-name true count c m n moves later has = later (count + 1) has
removed-name false count c m n moves later has =
    let x : Pruned = (count, m) in
    let y : Pruned = (c, n) in
    elim (Contains-append_cases (x ∷ []) (prunings_from count moves) y has) [
      | inl here ↦ (0, omega arith, ap (λ (z : Pruned). z.1) (one-only x y here))
      | inr behind ↦ Contains-append_right (m ∷ []) (pruned_names moves) n (later count behind)
    ]

pub pruned-name : (moves : List Move) (count c : ℕ) (n : List ℕ) → Contains (prunings_from count moves) (c, n) → Contains (pruned_names moves) n
pruned-name [] count c n (k, within, is) = absurd (omega (arith, within))
pruned-name (Write m bytes ∷ moves) count c n has = pruned-name moves (count + 1) c n has
pruned-name (Rename old new ∷ moves) count c n has = pruned-name moves (count + 1) c n has
pruned-name (Remove m ∷ moves) count c n has = removed-name (is_hidden m) count c m n moves (λ d. pruned-name moves d c n) has
pruned-name (Looked m there ∷ moves) count c n has = pruned-name moves (count + 1) c n has
pruned-name (Sync ∷ moves) count c n has = pruned-name moves (count + 1) c n has

-- of removals alone the count is that of the moves before
removed-count : (t : Bool) (count c : ℕ) (m n : List ℕ) (moves : List Move) → unless_pruning (not t) (Remove m) (other_moves moves) ≡ [] →
    (other_moves moves ≡ [] → Contains (prunings_from count moves) (c, n) → c ≡ count) → Contains (with_pruning t count m (prunings_from (counted t count) moves)) (c, n) → c ≡ count
removed-count true count c m n moves none later has = absurd (cc none)
removed-count false count c m n moves none later has =
    let x : Pruned = (count, m) in
    let y : Pruned = (c, n) in
    elim (Contains-append_cases (x ∷ []) (prunings_from count moves) y has) [
      | inl here ↦ sym (ap (λ (z : Pruned). z.0) (one-only x y here))
      | inr behind ↦ later none behind
    ]

same-count : (moves : List Move) (count c : ℕ) (n : List ℕ) → other_moves moves ≡ [] → Contains (prunings_from count moves) (c, n) → c ≡ count
same-count [] count c n none (k, within, is) = absurd (omega (arith, within))
same-count (Write m bytes ∷ moves) count c n none has = absurd (cc none)
same-count (Rename old new ∷ moves) count c n none has = absurd (cc none)
same-count (Remove m ∷ moves) count c n none has = removed-count (is_hidden m) count c m n moves none (same-count moves count c n) has
same-count (Looked m there ∷ moves) count c n none has = absurd (cc none)
same-count (Sync ∷ moves) count c n none has = absurd (cc none)

-- a front of a list, by its length
front-is : (a b c d : List Move) → a ++ b ≡ c ++ d → length a ≡ length c → a ≡ c
front-is a b c d same len =
    sym (take-append-le (length a) a b (omega arith) ∙ take_all (length a) a (omega arith)) ∙ ap (take (length a)) same ∙ ap (λ (n : ℕ). take n (c ++ d)) len
    ∙ take-append-le (length c) c d (omega arith) ∙ take_all (length c) c (omega arith)

shown-here : (t : Bool) (count : ℕ) (name : List ℕ) (moves : List Move) → t ≡ false → Contains (with_pruning t count name (prunings_from (counted t count) moves)) (count, name)
shown-here true count name moves shown = absurd (cc shown)
shown-here false count name moves shown = first-of (count, name) (prunings_from count moves)

-- wherever a served file was removed, the items behind which it went were in place
pub in-turn : (syncs : Bool) (made more : List Move) (renditions : List KeepingValue) (items : List ItemValue) → other_moves made ≡ moves_when syncs (puts_of items) ++ more →
    AreInTurn syncs (prunings made) renditions items → WentInTurn syncs made renditions items
in-turn syncs made more renditions items moves turns before behind name all shown =
    let count = length (other_moves before) in
    let start : 0 + count ≡ count = omega arith in
    let later = other_moves (Remove name ∷ behind) in
    let split : prunings made ≡ prunings before ++ prunings_from (0 + count) (Remove name ∷ behind) = ap prunings all ∙ prunings-append before (Remove name ∷ behind) 0 in
    let here : Contains (prunings_from (0 + count) (Remove name ∷ behind)) (0 + count, name) = shown-here (is_hidden name) (0 + count) name behind shown in
    let has : Contains (prunings made) (count, name) =
    subst (λ (c : ℕ). Contains (prunings made) (c, name)) start
    (subst (λ (l : List Pruned). Contains l (0 + count, name)) (sym split) (Contains-append_right (prunings before) (prunings_from (0 + count) (Remove name ∷ behind)) (0 + count, name) here)) in
    let w = turns count name has in
    let first = moves_when syncs (puts_of w.put) in
    let last = moves_when syncs (puts_of w.rest) in
    let items_are : moves_when syncs (puts_of items) ≡ first ++ last =
    ap (λ (l : List ItemValue). moves_when syncs (puts_of l)) w.all ∙ ap (moves_when syncs) (puts-append w.put w.rest) ∙ moves-append syncs (puts_of w.put) (puts_of w.rest) w.whole in
    let both : other_moves before ++ later ≡ first ++ (last ++ more) =
    sym (other_moves-append before (Remove name ∷ behind)) ∙ ap other_moves (sym all) ∙ moves ∙ ap (λ (l : List Move). l ++ more) items_are ∙ append_assoc first last more in
    record {
      went = w.went;
      put = w.put;
      rest = w.rest;
      all = w.all;
      moves = front-is (other_moves before) later first (last ++ more) both w.count_is;
      whole = w.whole;
      unlisted = w.unlisted;
      later = w.later;
    }

-- an item that is put lists nothing that was passed
one-begins : (item : ItemValue) (new : List KeepingValue) → ComesInTurn item new → (r : ℕ) → r < length new → (number : ℕ) → IsPassed (keeping_at new r) number →
    AllBeginBehind (keeping_at new r).name number (item ∷ [])
one-begins (SegmentItem s) new turn r within number passed = tt
one-begins (MediaItem p) new turn r within number passed = (
  λ named.
      let is : r ≡ p.rendition = turn.own r within named in
      begins (keeping_at new p.rendition) p.text number (turn.goes_on (subst (λ (n : ℕ). n < length new) is within)) (subst (λ (n : ℕ). IsPassed (keeping_at new n) number) is passed),
  tt,
)
one-begins (FramesItem p) new turn r within number passed = tt
one-begins (MasterItem text) new turn r within number passed = tt

turns-more : (syncs : Bool) (pruned : List Pruned) (items : List ItemValue) (item : ItemValue) (old new : List KeepingValue) → Stay old new → ComesInTurn item new → AreInTurn syncs pruned old items →
    AreInTurn syncs pruned new (items ++ item ∷ [])
unfolding gone-still
turns-more syncs pruned items item old new same turn turns count name has =
    let w = turns count name has in
    let g = gone-still old new name same w.went in
    let named = sym (same.each w.went.r).name in
    record {
      went = g;
      put = w.put;
      rest = w.rest ++ item ∷ [];
      all = ap (λ (l : List ItemValue). l ++ item ∷ []) w.all ∙ append_assoc w.put w.rest (item ∷ []);
      count_is = w.count_is;
      whole = w.whole;
      unlisted = subst (λ (text : List ℕ). IsUnlisted text w.went.number w.put) named w.unlisted;
      later = all-begin-append (keeping_at new g.r).name g.number w.rest (item ∷ []) (subst (λ (text : List ℕ). AllBeginBehind text w.went.number w.rest) named w.later)
          (one-begins item new turn g.r g.one g.number g.passed);
    }

-- segments that went in turn did so still
pub turns-still : (syncs : Bool) (pruned : List Pruned) (items : List ItemValue) (old new : List KeepingValue) → Stay old new → AreInTurn syncs pruned old items → AreInTurn syncs pruned new items
unfolding gone-still
turns-still syncs pruned items old new same turns count name has =
    let w = turns count name has in
    let named = sym (same.each w.went.r).name in
    record {
      went = gone-still old new name same w.went;
      put = w.put;
      rest = w.rest;
      all = w.all;
      count_is = w.count_is;
      whole = w.whole;
      unlisted = subst (λ (text : List ℕ). IsUnlisted text w.went.number w.put) named w.unlisted;
      later = subst (λ (text : List ℕ). AllBeginBehind text w.went.number w.rest) named w.later;
    }

-- an I-frame playlist ends its block
ends-block : (p : PlaylistValue) (items : List ItemValue) → staged_after [] (puts_of (items ++ FramesItem p ∷ [])) ≡ []
ends-block p items = ap (staged_after []) (puts-append items (FramesItem p ∷ [])) ∙ staged_after-append [] (puts_of items) (puts_of (FramesItem p ∷ []))

-- segments that go behind a block
turns-of : (syncs : Bool) (p : PlaylistValue) (items : List ItemValue) (old new : List KeepingValue) (made made_then more : List Move) → made_then ≡ made ++ more → other_moves made_then ≡ other_moves made →
    other_moves made ≡ moves_when syncs (puts_of (items ++ FramesItem p ∷ [])) → Stay old new → AreGone (pruned_names made_then) new → AreUnlisted new (items ++ FramesItem p ∷ []) →
    AreInTurn syncs (prunings made) old (items ++ FramesItem p ∷ []) → AreInTurn syncs (prunings made_then) new (items ++ FramesItem p ∷ [])
turns-of syncs p items old new made made_then more is others moves same gone unlisted turns count name has =
    let all = items ++ FramesItem p ∷ [] in
    let behind = 0 + length (other_moves made) in
    let none : other_moves more ≡ [] = append_cancel_left (other_moves made) (other_moves more) []
    (sym (other_moves-append made more) ∙ ap other_moves (sym is) ∙ others ∙ sym (append-nil (other_moves made))) in
    let split : prunings made_then ≡ prunings made ++ prunings_from behind more = ap prunings is ∙ prunings-append made more 0 in
    elim (Contains-append_cases (prunings made) (prunings_from behind more) (count, name) (subst (λ (l : List Pruned). Contains l (count, name)) split has)) [
      | inl before ↦ turns-still syncs (prunings made) all old new same turns count name before
      | inr now ↦
          let g = gone name (pruned-name made_then 0 count name has) in
          let at : count ≡ behind = same-count more behind count name none now in
          let len : length (other_moves made) ≡ length (moves_when syncs (puts_of all)) = ap length moves in
          record {
            went = g;
            put = all;
            rest = [];
            all = sym (append-nil all);
            count_is = omega (arith, at, len);
            whole = ends-block p items;
            unlisted = unlisted g.r g.one g.number g.passed;
            later = tt;
          }
    ]

as-before : (syncs : Bool) (items : List ItemValue) (old new : List KeepingValue) (made made_then : List Move) → new ≡ old → made_then ≡ made → AreInTurn syncs (prunings made) old items →
    AreInTurn syncs (prunings made_then) new items
as-before syncs items old new made made_then is same turns =
    subst (λ (l : List KeepingValue). AreInTurn syncs (prunings made_then) l items) (sym is) (subst (λ (m : List Move). AreInTurn syncs (prunings m) old items) (sym same) turns)

turns-behind : (syncs : Bool) (item : ItemValue) (items : List ItemValue) (old new : List KeepingValue) (made made_then : List Move) → GoBehind item old new made made_then →
    other_moves made_then ≡ other_moves made → other_moves made ≡ moves_when syncs (puts_of (items ++ item ∷ [])) → AreGone (pruned_names made) old → AreUnlisted old (items ++ item ∷ []) →
    AreInTurn syncs (prunings made) old (items ++ item ∷ []) → AreInTurn syncs (prunings made_then) new (items ++ item ∷ [])
turns-behind syncs (SegmentItem s) items old new made made_then went others moves gone unlisted turns = as-before syncs (items ++ SegmentItem s ∷ []) old new made made_then went.0 went.1 turns
turns-behind syncs (MediaItem p) items old new made made_then went others moves gone unlisted turns = as-before syncs (items ++ MediaItem p ∷ []) old new made made_then went.0 went.1 turns
turns-behind syncs (FramesItem p) items old new made made_then (inr (beyond, is, same)) others moves gone unlisted turns = as-before syncs (items ++ FramesItem p ∷ []) old new made made_then is same turns
turns-behind syncs (FramesItem p) items old new made made_then (inl (within, did)) others moves gone unlisted turns =
    let went : GoBehind (FramesItem p) old new made made_then = inl (within, did) in
    turns-of syncs p items old new made made_then _ did.is.made_are others moves (gone-all-same (FramesItem p) old new made made_then went) (gone-behind (FramesItem p) old new made made_then went gone)
    (unlisted-behind (FramesItem p) (items ++ FramesItem p ∷ []) old new made made_then went unlisted) turns
turns-behind syncs (MasterItem text) items old new made made_then went others moves gone unlisted turns = as-before syncs (items ++ MasterItem text ∷ []) old new made made_then went.0 went.1 turns

-- an item was put, by which nothing was taken away among the other moves, and segments went behind it
pub turns-put : (syncs : Bool) (item : ItemValue) (items : List ItemValue) (o m n : List KeepingValue) (made_o made_m made_n : List Move) → is_named item ≡ true → AreNotedBy item o m → ComesInTurn item m →
    prunings made_m ≡ prunings made_o → GoBehind item m n made_m made_n → other_moves made_n ≡ other_moves made_m → other_moves made_m ≡ moves_when syncs (puts_of (items ++ item ∷ [])) →
    AreGone (pruned_names made_m) m → AreUnlisted o items → AreInTurn syncs (prunings made_o) o items → AreInTurn syncs (prunings made_n) n (items ++ item ∷ [])
turns-put syncs item items o m n made_o made_m made_n named noted turn same behind others moves gone unlisted turns =
    turns-behind syncs item items m n made_m made_n behind others moves gone (unlisted-put item items o m named noted turn unlisted)
    (subst (λ (l : List Pruned). AreInTurn syncs l m (items ++ item ∷ [])) (sym same) (turns-more syncs (prunings made_o) items item o m (noted-all-same item o m noted) turn turns))

-- the names of those that were taken away
names-removed : (t : Bool) (count : ℕ) (name : List ℕ) (moves : List Move) → ((c : ℕ) → map (λ (x : Pruned). x.1) (prunings_from c moves) ≡ pruned_names moves) →
    map (λ (x : Pruned). x.1) (with_pruning t count name (prunings_from (counted t count) moves)) ≡ unless_hidden t name (pruned_names moves)
names-removed true count name moves later = later (count + 1)
names-removed false count name moves later = ap (λ (l : List (List ℕ)). name ∷ l) (later count)

names-are : (moves : List Move) (count : ℕ) → map (λ (x : Pruned). x.1) (prunings_from count moves) ≡ pruned_names moves
names-are [] count = refl
names-are (Write n bytes ∷ moves) count = names-are moves (count + 1)
names-are (Rename old new ∷ moves) count = names-are moves (count + 1)
names-are (Remove n ∷ moves) count = names-removed (is_hidden n) count n moves (names-are moves)
names-are (Looked n there ∷ moves) count = names-are moves (count + 1)
names-are (Sync ∷ moves) count = names-are moves (count + 1)

pub same-names : (made made_then : List Move) → prunings made_then ≡ prunings made → pruned_names made_then ≡ pruned_names made
same-names made made_then same = sym (names-are made_then 0) ∙ ap (map (λ (x : Pruned). x.1)) same ∙ names-are made 0
