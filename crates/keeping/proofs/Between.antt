-- Behind whole blocks no playlist in place lists what went.
use Rattle.std.specs.Prelude.{not}
use Rattle.std.proofs.Common.{◌≡◌, ℕ, Bool, true, false, None, Some, List, [], ◌∷◌, ◌++◌, refl, sym, ap, ◌∙◌, subst, inl, inr, ◌⊎◌, append-nil}
use Rattle.folder.specs.Moves.{Files, Looked, Move, Remove, Rename, Shows, Sync, Write, is_hidden, moved, standing, with_file}
use Rattle.folder.specs.Puts.{Names, after_puts}
use Rattle.folder.specs.Pruning.{AreFromHidden, SameBut, WasPruned, other_moves, unless_pruning}
use Rattle.folder.specs.Syncing.{moves_when}
use Rattle.folder.proofs.FromHidden.{from-others, when-from-hidden}
use Rattle.folder.proofs.Pruning.{SameBut-more, SameBut-pruned, SameBut-renamed, SameBut-with_file, same-hidden}
use Rattle.item_io.specs.Blocks.{AreBlocks}
use Rattle.item_io.specs.Items.{ItemValue}
use Rattle.item_io.specs.Outlets.{Grows, Held}
use Rattle.item_io.specs.FolderMoves.{puts_of}
use Rattle.item_io.proofs.Fitting.{blocks-fit}
use Rattle.keeping.specs.Keepings.{AreTold, IsGone, KeepingValue}
use Rattle.keeping.specs.Holding.{HoldsKept}
use Rattle.keeping.specs.InPlace.{FramesFollow, NoneIsListed}
use Rattle.keeping.proofs.Left.{held-first, held-of, is-among}
use Rattle.keeping.proofs.Stopping.{missed, seen-when}

abbrev Claim : List Move → Type 1
Claim moves = (Went : List ℕ → Type 0) (a b : Files) → ((name : List ℕ) → Went name → is_hidden name ≡ false) → SameBut Went a b → AreFromHidden moves →
    SameBut (λ name. Went name ⊎ WasPruned moves name) (standing a moves) (standing b (other_moves moves))

removed-but : (n : List ℕ) (moves : List Move) (hidden : Bool) → is_hidden n ≡ hidden → Claim moves → Claim (Remove n ∷ moves)
removed-but n moves true is later Went a b shown but from =
    subst (λ (t : Bool). SameBut (λ name. Went name ⊎ WasPruned (Remove n ∷ moves) name) (standing (with_file a n None) moves) (standing b (unless_pruning (not t) (Remove n) (other_moves moves)))) (sym is)
    (SameBut-more (λ name. Went name ⊎ WasPruned moves name) (λ name. Went name ⊎ WasPruned (Remove n ∷ moves) name) (standing (with_file a n None) moves) (standing (with_file b n None) (other_moves moves))
    (λ name gone. elim gone [ inl before ↦ inl before | inr now ↦ inr (inr now) ])
    (later Went (with_file a n None) (with_file b n None) shown (SameBut-with_file Went a b n None but) from))
removed-but n moves false is later Went a b shown but from =
    subst (λ (t : Bool). SameBut (λ name. Went name ⊎ WasPruned (Remove n ∷ moves) name) (standing (with_file a n None) moves) (standing b (unless_pruning (not t) (Remove n) (other_moves moves)))) (sym is)
    (SameBut-more (λ name. (Went name ⊎ (n ≡ name)) ⊎ WasPruned moves name) (λ name. Went name ⊎ WasPruned (Remove n ∷ moves) name) (standing (with_file a n None) moves) (standing b (other_moves moves))
    (λ name gone. elim gone [
      | inl (inl before) ↦ inl before
      | inl (inr same) ↦ inr (inl (same, is))
      | inr now ↦ inr (inr now)
    ])
    (later (λ name. Went name ⊎ (n ≡ name)) (with_file a n None) b
    (λ name gone. elim gone [ inl before ↦ shown name before | inr same ↦ subst (λ (m : List ℕ). is_hidden m ≡ false) same is ])
    (SameBut-pruned Went a b n but) from))

-- what all moves leave is what the others leave, but for what was taken away
standing-but : (moves : List Move) → Claim moves
standing-but [] Went a b shown but from = SameBut-more Went (λ name. Went name ⊎ WasPruned [] name) a b (λ name gone. inl gone) but
standing-but (Write n bytes ∷ moves) Went a b shown but from =
    standing-but moves Went (with_file a n (Some bytes)) (with_file b n (Some bytes)) shown (SameBut-with_file Went a b n (Some bytes) but) from
standing-but (Rename old new ∷ moves) Went a b shown but from =
    standing-but moves Went (moved a (Rename old new)) (moved b (Rename old new)) shown (SameBut-renamed Went a b old new but (same-hidden Went a b old but shown from.0)) from.1
standing-but (Remove n ∷ moves) Went a b shown but from = removed-but n moves (is_hidden n) refl (standing-but moves) Went a b shown but from
standing-but (Looked n there ∷ moves) Went a b shown but from = standing-but moves Went a b shown but from
standing-but (Sync ∷ moves) Went a b shown but from = standing-but moves Went a b shown but from

-- of what is held
pub holds-unlisted : (syncs : Bool) (made : List Move) (staged : List Names) (failures : ℕ) (renditions : List KeepingValue) (held : Held) → HoldsKept syncs made staged failures renditions held → failures ≡ 0 →
    AreBlocks held.items → FramesFollow held.items → NoneIsListed made renditions
holds-unlisted syncs made staged failures renditions held h well blocks follow files name has =
    let puts = puts_of held.items in
    let fit = blocks-fit held.items blocks in
    let moves : other_moves made ≡ moves_when syncs puts = h.files.made_are ∙ ap (λ (l : List Move). moves_when syncs puts ++ l) (h.files.none well) ∙ append-nil (moves_when syncs puts) in
    let from : AreFromHidden made = from-others made (subst AreFromHidden (sym moves) (when-from-hidden syncs puts fit.0)) in
    let g = h.gone name has in
    let others = standing files (other_moves made) in
    let shows : Shows others (after_puts files puts) = λ n shown. ap (λ (l : List Move). standing files l n) moves ∙ seen-when syncs files puts fit.0 fit.1 n shown in
    let all : held.items ≡ (held.items ++ []) ++ [] = sym (append-nil (held.items ++ []) ∙ append-nil held.items) in
    let but = standing-but made (λ n. ⊥) files files (λ n none. absurd none) (λ n. inl refl) from in
    let went : (n : List ℕ) → (⊥ ⊎ WasPruned made n) → IsGone renditions n = λ n was. elim was [ inl none ↦ absurd none | inr now ↦ h.gone n (is-among made n now) ] in
    missed renditions files (standing files made) others (λ n. ⊥ ⊎ WasPruned made n) name held.items held.items g but went follow fit.1 (h.unlisted well g.r g.one g.number g.passed)
    (record {
      given = [];
      rest = [];
      all_are = all;
      later = tt;
      shows = subst (λ (l : List ItemValue). Shows others (after_puts files (puts_of l))) (sym (append-nil held.items)) shows;
    })

pub between : (syncs syncs_then : Bool) (made made_then : List Move) (staged staged_then : List Names) (failures : ℕ) (renditions renditions_then : List KeepingValue) (items : List ItemValue) →
    made ≡ [] → staged ≡ [] → AreTold renditions [] → Grows (HoldsKept syncs made staged 0 renditions) (HoldsKept syncs_then made_then staged_then failures renditions_then) items →
    failures ≡ 0 → AreBlocks items → FramesFollow items → NoneIsListed made_then renditions_then
between syncs syncs_then made made_then staged staged_then failures renditions renditions_then items none idle told grows well blocks follow =
    holds-unlisted syncs_then made_then staged_then failures renditions_then (held-of syncs items)
    (grows.follows (held-of syncs []) (held-first syncs made staged renditions none idle told)) well blocks follow
