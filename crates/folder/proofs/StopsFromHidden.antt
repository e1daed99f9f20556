-- The moves of files that are put, and of one that failed, rename from hidden names alone.
use Rattle.std.proofs.Common.{◌≡◌, Bool, true, false, List, [], ◌∷◌, ◌++◌, sym, ap, ◌∙◌, subst, inl, inr, append-nil}
use Rattle.folder.specs.Moves.{Looked, Move, Remove, Rename, Sync, Write}
use Rattle.folder.specs.Kills.{IsFailedWrite}
use Rattle.folder.specs.Puts.{MayBePut, Put, moves_behind, placings, staged_after, writing}
use Rattle.folder.specs.PowerLoss.{synced_moves_behind, synced_placings}
use Rattle.folder.specs.Prefixes.{IsFailedPut}
use Rattle.folder.specs.Pruning.{AreFromHidden}
use Rattle.folder.specs.Syncing.{moves_when, placings_when}
use Rattle.folder.proofs.FromHidden.{AreFromHidden-append, when-from-hidden}
use Rattle.folder.proofs.Losses.{synced_moves_behind-append}
use Rattle.folder.proofs.Stops.{moves_behind-append}

front-of : (front rest : List Move) → AreFromHidden (front ++ rest) → AreFromHidden front
front-of [] rest from = tt
front-of (Write name bytes ∷ front) rest from = front-of front rest from
front-of (Rename old new ∷ front) rest from = (from.0, front-of front rest from.1)
front-of (Remove name ∷ front) rest from = front-of front rest from
front-of (Looked name there ∷ front) rest from = front-of front rest from
front-of (Sync ∷ front) rest from = front-of front rest from

rest-of : (front rest : List Move) → AreFromHidden (front ++ rest) → AreFromHidden rest
rest-of [] rest from = from
rest-of (Write name bytes ∷ front) rest from = rest-of front rest from
rest-of (Rename old new ∷ front) rest from = rest-of front rest from.1
rest-of (Remove name ∷ front) rest from = rest-of front rest from
rest-of (Looked name there ∷ front) rest from = rest-of front rest from
rest-of (Sync ∷ front) rest from = rest-of front rest from

one-more : (syncs : Bool) (puts : List Put) (p : Put) →
    moves_when syncs (puts ++ p ∷ []) ≡ moves_when syncs puts ++ writing p ∷ placings_when syncs p.ends (staged_after [] puts) p
one-more true puts p = synced_moves_behind-append [] puts (p ∷ []) ∙ ap (λ (l : List Move). synced_moves_behind [] puts ++ writing p ∷ l) (append-nil (synced_placings p.ends (staged_after [] puts) p))
one-more false puts p = moves_behind-append [] puts (p ∷ []) ∙ ap (λ (l : List Move). moves_behind [] puts ++ writing p ∷ l) (append-nil (placings p.ends (staged_after [] puts) p))

failed-write : (p : Put) (more : List Move) → IsFailedWrite p.part p.bytes more → AreFromHidden more
failed-write p more (inl none) = subst AreFromHidden (sym none) tt
failed-write p more (inr (inl gone)) = subst AreFromHidden (sym gone) tt
failed-write p more (inr (inr (front, rest, all, inl part))) = subst AreFromHidden (sym part) tt
failed-write p more (inr (inr (front, rest, all, inr removed))) = subst AreFromHidden (sym removed) tt

-- what a put that failed did
failed-put : (placed : List Move) (p : Put) (more : List Move) → AreFromHidden placed → IsFailedPut placed p more → AreFromHidden more
failed-put placed p more from (inl write) = failed-write p more write
failed-put placed p more from (inr (front, rest, all, done)) = subst AreFromHidden (sym done) (front-of front rest (subst AreFromHidden all from))

pub stopped-from-hidden : (syncs : Bool) (puts : List Put) (p : Put) (more : List Move) → MayBePut [] (puts ++ p ∷ []) →
    IsFailedPut (placings_when syncs p.ends (staged_after [] puts) p) p more → AreFromHidden (moves_when syncs puts ++ more)
stopped-from-hidden syncs puts p more fit stopped =
    let all : AreFromHidden (moves_when syncs puts ++ writing p ∷ placings_when syncs p.ends (staged_after [] puts) p) =
    subst AreFromHidden (one-more syncs puts p) (when-from-hidden syncs (puts ++ p ∷ []) fit) in
    AreFromHidden-append (moves_when syncs puts) more (front-of (moves_when syncs puts) (writing p ∷ placings_when syncs p.ends (staged_after [] puts) p) all)
    (failed-put (placings_when syncs p.ends (staged_after [] puts) p) p more (rest-of (moves_when syncs puts) (writing p ∷ placings_when syncs p.ends (staged_after [] puts) p) all) stopped)
