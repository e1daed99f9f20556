-- What is left of a folder from which segments go.
use Rattle.std.specs.List.{Contains}
use Rattle.std.proofs.Common.{arith, true, false, ◌≡◌, ℕ, Bool, List, [], ◌∷◌, ◌++◌, refl, sym, ap, ◌∙◌, subst, inl, inr, append-nil, append_assoc}
use Rattle.std.proofs.lemmas.List.Elements.{Contains-append_right}
use Rattle.folder.specs.Moves.{Files, Looked, Move, Remove, Rename, Sync, Write, is_hidden}
use Rattle.folder.specs.Puts.{MayBePut, Names, Put}
use Rattle.folder.specs.Prefixes.{HasPrefix}
use Rattle.folder.specs.Pruning.{AreFromHidden, WasPruned, other_moves, pruned_names, prunings, unless_hidden}
use Rattle.folder.specs.Syncing.{moves_when}
use Rattle.folder.proofs.FromHidden.{from-others}
use Rattle.folder.proofs.StopsFromHidden.{stopped-from-hidden}
use Rattle.folder.proofs.Kills.{HasPrefix-more}
use Rattle.item_io.specs.Items.{ItemValue}
use Rattle.item_io.specs.Outlets.{Held}
use Rattle.item_io.specs.Blocks.{AreBlocks}
use Rattle.item_io.specs.FolderMoves.{put_of, puts_of, sync_mark}
use Rattle.item_io.proofs.Fitting.{given-fit, puts-append}
use Rattle.item_io.proofs.Leaving.{holds-nothing, marked-same}
use Rattle.keeping.specs.Keepings.{AreTold, KeepingValue}
use Rattle.keeping.specs.Turns.{AreInTurn}
use Rattle.keeping.specs.Holding.{HoldsKept, HoldsKeptUpTo}
use Rattle.keeping.specs.InPlace.{EachKillLeavesUnlisted, EachLossOfPowerLeavesUnlisted, FramesFollow, IsLeftUnlisted}
use Rattle.keeping.proofs.Unlisting.{unlisted-first}
use Rattle.keeping.proofs.Stopping.{kills-unlisted}
use Rattle.keeping.proofs.Losing.{losses-unlisted}
use Rattle.keeping.proofs.Refused.{kills-refused, losses-refused}
use Rattle.keeping.proofs.Turns.{in-turn}

-- what was pruned has its name among those
first-of : (name : List ℕ) (names : List (List ℕ)) → Contains (name ∷ names) name
first-of name names = (0, omega arith, refl)

one-more : (t : Bool) (gone name : List ℕ) (names : List (List ℕ)) → Contains names name → Contains (unless_hidden t gone names) name
one-more true gone name names has = has
one-more false gone name names has = Contains-append_right (gone ∷ []) names name has

pub is-among : (moves : List Move) (name : List ℕ) → WasPruned moves name → Contains (pruned_names moves) name
is-among [] name was = absurd was
is-among (Write n bytes ∷ moves) name was = is-among moves name was
is-among (Rename old new ∷ moves) name was = is-among moves name was
is-among (Remove n ∷ moves) name (inl (is, shown)) =
    subst (λ (t : Bool). Contains (unless_hidden t n (pruned_names moves)) name) (sym shown)
    (subst (λ (m : List ℕ). Contains (n ∷ pruned_names moves) m) is (first-of n (pruned_names moves)))
is-among (Remove n ∷ moves) name (inr was) = one-more (is_hidden n) n name (pruned_names moves) (is-among moves name was)
is-among (Looked n there ∷ moves) name was = is-among moves name was
is-among (Sync ∷ moves) name was = is-among moves name was

none-in : {T : Type 0} (x : T) → Contains [] x → ⊥
none-in x (k, within, is) = omega (arith, within)

-- items, behind what an outlet holds before the first
abbrev pub held-of : Bool → List ItemValue → Held
held-of syncs items = record { before = sync_mark syncs; items = items }

-- before the first item
pub held-first : (syncs : Bool) (made : List Move) (staged : List Names) (renditions : List KeepingValue) → made ≡ [] → staged ≡ [] → AreTold renditions [] →
    HoldsKept syncs made staged 0 renditions (held-of syncs [])
held-first syncs made staged renditions none idle told = record {
  files = holds-nothing syncs (other_moves made) staged (ap other_moves none) idle;
  told = λ _. told;
  gone = λ name has. absurd (none-in name (subst (λ (l : List Move). Contains (pruned_names l) name) none has));
  unlisted = λ _. unlisted-first renditions told;
  turns = λ _ count name has.
      let one : ℕ × List ℕ = (count, name) in
      absurd (none-in one (subst (λ (l : List Move). Contains (prunings l) one) none has));
}

-- a prefix of some items is one of more
pub left-more : (items given rest : List ItemValue) (renditions : List KeepingValue) (files left : Files) → items ≡ given ++ rest → IsLeftUnlisted given renditions files left →
    IsLeftUnlisted items renditions files left
left-more items given rest renditions files left all is =
    let split : puts_of given ++ puts_of rest ≡ puts_of items = sym (ap puts_of all ∙ puts-append given rest) in
    record {
      whole = is.whole;
      prefix = subst (λ (l : List Put). HasPrefix files l is.whole) split (HasPrefix-more files (puts_of given) (puts_of rest) is.whole is.prefix);
      but = is.but;
    }

module _ (syncs syncs_then : Bool) (made : List Move) (renditions : List KeepingValue) (items given rest : List ItemValue) (blocks : AreBlocks items) (follow : FramesFollow items) where
  -- some items of blocks were put
  module _ (all : items ≡ given ++ rest) (staged : List Names) (failures : ℕ) (held : HoldsKept syncs_then made staged failures renditions (held-of syncs given)) (well : failures ≡ 0) where
    moves-are : other_moves made ≡ moves_when syncs_then (puts_of given)
    moves-are = held.files.made_are ∙ ap (λ (l : List Move). moves_when syncs_then (puts_of given) ++ l) (held.files.none well) ∙ append-nil (moves_when syncs_then (puts_of given))

    pub killed-held : EachKillLeavesUnlisted made given renditions
    killed-held = kills-unlisted syncs_then made renditions items given rest blocks follow all moves-are
        (in-turn syncs_then made held.files.more renditions given held.files.made_are (held.turns well))

    pub lost-held : syncs ≡ true → EachLossOfPowerLeavesUnlisted made given renditions
    lost-held synced =
        let same : syncs_then ≡ true = marked-same syncs syncs_then held.files.marked ∙ synced in
        losses-unlisted made renditions items given rest blocks follow all (subst (λ (t : Bool). other_moves made ≡ moves_when t (puts_of given)) same moves-are)
        (in-turn true made held.files.more renditions given (subst (λ (t : Bool). other_moves made ≡ moves_when t (puts_of given) ++ held.files.more) same held.files.made_are)
        (subst (λ (t : Bool). AreInTurn t (prunings made) renditions given) same (held.turns well)))

  -- and the next one was refused
  module _ (item : ItemValue) (all : items ≡ given ++ item ∷ rest) (broken : HoldsKeptUpTo syncs_then made renditions (held-of syncs given) item) where
    from-hidden : AreFromHidden made
    from-hidden =
        let fit : MayBePut [] (puts_of (given ++ item ∷ [])) = given-fit items (given ++ item ∷ []) rest blocks (all ∙ sym (append_assoc given (item ∷ []) rest)) in
        from-others made (subst AreFromHidden (sym broken.files.made_are)
        (stopped-from-hidden syncs_then (puts_of given) (put_of item) broken.files.more (subst (λ (l : List Put). MayBePut [] l) (puts-append given (item ∷ [])) fit) broken.files.stopped))

    pub killed-refused : EachKillLeavesUnlisted made (given ++ item ∷ []) renditions
    killed-refused = kills-refused syncs_then made broken.files.more renditions items given rest item blocks follow all broken.files.made_are broken.files.stopped from-hidden
        (in-turn syncs_then made broken.files.more renditions given broken.files.made_are broken.turns)

    pub lost-refused : syncs ≡ true → EachLossOfPowerLeavesUnlisted made (given ++ item ∷ []) renditions
    lost-refused synced =
        let same : syncs_then ≡ true = marked-same syncs syncs_then broken.files.marked ∙ synced in
        let b : HoldsKeptUpTo true made renditions (held-of syncs given) item = subst (λ (t : Bool). HoldsKeptUpTo t made renditions (held-of syncs given) item) same broken in
        losses-refused made b.files.more renditions items given rest item blocks follow all b.files.made_are b.files.stopped from-hidden
        (in-turn true made b.files.more renditions given b.files.made_are b.turns)
