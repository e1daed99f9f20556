-- Files that are put are renamed from hidden names.
use Rattle.std.specs.Prelude.{not}
use Rattle.std.proofs.Common.{ℕ, Bool, true, false, List, [], ◌∷◌, ◌++◌, map, inl, inr}
use Rattle.folder.specs.Moves.{Files, Looked, Move, Remove, Rename, Sync, Write, is_hidden, moved}
use Rattle.folder.specs.Kills.{KillMayLeave}
use Rattle.folder.specs.Puts.{IsServed, MayBePut, Put, moves_behind, moves_of, placing, placings, staged_with}
use Rattle.folder.specs.PowerLoss.{synced_each, synced_moves_behind, synced_moves_of, synced_placings}
use Rattle.folder.specs.Pruning.{AreAt, AreFromHidden, other_moves, unless_pruning}
use Rattle.folder.specs.Syncing.{moves_when}

pub AreFromHidden-append : (first second : List Move) → AreFromHidden first → AreFromHidden second → AreFromHidden (first ++ second)
AreFromHidden-append [] second a b = b
AreFromHidden-append (Write name bytes ∷ first) second a b = AreFromHidden-append first second a b
AreFromHidden-append (Rename old new ∷ first) second a b = (a.0, AreFromHidden-append first second a.1 b)
AreFromHidden-append (Remove name ∷ first) second a b = AreFromHidden-append first second a b
AreFromHidden-append (Looked name there ∷ first) second a b = AreFromHidden-append first second a b
AreFromHidden-append (Sync ∷ first) second a b = AreFromHidden-append first second a b

removed-from : (t : Bool) (name : List ℕ) (moves : List Move) → AreFromHidden (unless_pruning t (Remove name) moves) → AreFromHidden moves
removed-from true name moves from = from
removed-from false name moves from = from

-- what is taken away besides isn't renamed
pub from-others : (moves : List Move) → AreFromHidden (other_moves moves) → AreFromHidden moves
from-others [] from = tt
from-others (Write name bytes ∷ moves) from = from-others moves from
from-others (Rename old new ∷ moves) from = (from.0, from-others moves from.1)
from-others (Remove name ∷ moves) from = from-others moves (removed-from (not (is_hidden name)) name (other_moves moves) from)
from-others (Looked name there ∷ moves) from = from-others moves from
from-others (Sync ∷ moves) from = from-others moves from

abbrev AreServed : List Put → Type 0
AreServed [] = Unit {0}
AreServed (p ∷ puts) = IsServed p × AreServed puts

AreServed-more : (staged : List Put) (p : Put) → AreServed staged → IsServed p → AreServed (staged ++ p ∷ [])
AreServed-more [] p served is = (is, tt)
AreServed-more (q ∷ staged) p served is = (served.0, AreServed-more staged p served.1 is)

from-placings : (staged : List Put) → AreServed staged → AreFromHidden (map placing staged)
from-placings [] served = tt
from-placings (p ∷ staged) served = (served.0.hidden, from-placings staged served.1)

from-synced : (staged : List Put) → AreServed staged → AreFromHidden (synced_each staged)
from-synced [] served = tt
from-synced (p ∷ staged) served = (served.0.hidden, from-synced staged served.1)

abbrev Claim : List Put → Type 0
Claim puts = (staged : List Put) → AreServed staged → MayBePut staged puts → AreFromHidden (moves_behind staged puts)

from-put : (puts staged : List Put) (p : Put) (ends : Bool) → AreServed staged → IsServed p → Claim puts → MayBePut (staged_with ends staged p) puts →
    AreFromHidden (placings ends staged p ++ moves_behind (staged_with ends staged p) puts)
from-put puts staged p true served is later fit =
    AreFromHidden-append (map placing (staged ++ p ∷ [])) (moves_behind [] puts) (from-placings (staged ++ p ∷ []) (AreServed-more staged p served is)) (later [] tt fit)
from-put puts staged p false served is later fit = later (staged ++ p ∷ []) (AreServed-more staged p served is) fit

from-puts : (puts : List Put) → Claim puts
from-puts [] staged served fit = tt
from-puts (p ∷ puts) staged served fit = from-put puts staged p p.ends served fit.0 (from-puts puts) fit.2

moves-from-hidden : (puts : List Put) → MayBePut [] puts → AreFromHidden (moves_of puts)
moves-from-hidden puts fit = from-puts puts [] tt fit

abbrev SyncedClaim : List Put → Type 0
SyncedClaim puts = (staged : List Put) → AreServed staged → MayBePut staged puts → AreFromHidden (synced_moves_behind staged puts)

from-synced-put : (puts staged : List Put) (p : Put) (ends : Bool) → AreServed staged → IsServed p → SyncedClaim puts → MayBePut (staged_with ends staged p) puts →
    AreFromHidden (synced_placings ends staged p ++ synced_moves_behind (staged_with ends staged p) puts)
from-synced-put puts staged p true served is later fit =
    AreFromHidden-append (synced_each (staged ++ p ∷ [])) (synced_moves_behind [] puts) (from-synced (staged ++ p ∷ []) (AreServed-more staged p served is)) (later [] tt fit)
from-synced-put puts staged p false served is later fit = later (staged ++ p ∷ []) (AreServed-more staged p served is) fit

from-synced-puts : (puts : List Put) → SyncedClaim puts
from-synced-puts [] staged served fit = tt
from-synced-puts (p ∷ puts) staged served fit = from-synced-put puts staged p p.ends served fit.0 (from-synced-puts puts) fit.2

synced-from-hidden : (puts : List Put) → MayBePut [] puts → AreFromHidden (synced_moves_of puts)
synced-from-hidden puts fit = from-synced-puts puts [] tt fit

pub when-from-hidden : (syncs : Bool) (puts : List Put) → MayBePut [] puts → AreFromHidden (moves_when syncs puts)
when-from-hidden true = synced-from-hidden
when-from-hidden false = moves-from-hidden

-- what is left at a moment may be left by a kill
pub at-kill : (files : Files) (front rest : List Move) (left : Files) → AreAt files front rest left → KillMayLeave files (front ++ rest) left
at-kill files [] [] left at = at
at-kill files [] (m ∷ rest) left (inl same) = inl same
at-kill files [] (m ∷ rest) left (inr cut) = inr (inl cut)
at-kill files (n ∷ front) [] left at = inr (inr (at-kill (moved files n) front [] left at))
at-kill files (n ∷ front) (m ∷ rest) left at = inr (inr (at-kill (moved files n) front (m ∷ rest) left at))
