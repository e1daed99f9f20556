-- From what an outlet holds to what kills leave.
use Rattle.std.proofs.Common.{◌≡◌, ℕ, Bool, true, false, List, [], ◌∷◌, ◌++◌, refl, sym, ap, ◌∙◌, subst, inl, append-nil, append_assoc}
use Rattle.folder.specs.Moves.{Files, Move, Same, Shows, standing}
use Rattle.folder.specs.Kills.{KillMayLeave}
use Rattle.folder.specs.Puts.{MayBePut, Names, Put, after_puts, staged_after}
use Rattle.folder.specs.PowerLoss.{PowerLossMayLeave, disk_after}
use Rattle.folder.specs.Syncing.{moves_when, placings_when}
use Rattle.folder.specs.Prefixes.{HasPrefix, IsFailedPut}
use Rattle.item_io.specs.Items.{ItemValue, MasterItem}
use Rattle.item_io.specs.Outlets.{BreaksOff, Grows}
use Rattle.item_io.specs.FolderMoves.{HoldsFiles, HoldsFilesUpTo, put_of, puts_of, sync_mark}
use Rattle.item_io.specs.Blocks.{AreBlocks}
use Rattle.item_io.specs.Leaving.{EachKillLeaves, EachLossOfPowerLeaves, LeaveAll, LeaveAllOnDisk}
use Rattle.folder.proofs.Kills.{HasPrefix-more, each-kill, all-there}
use Rattle.folder.proofs.Stops.{each-stop}
use Rattle.folder.proofs.PowerLoss.{each-kill-synced, each-loss}
use Rattle.folder.proofs.Losses.{all-on-disk, all-there-synced, each-killed-stop, each-lost-stop}
use Rattle.item_io.proofs.Fitting.{blocks-fit, given-fit, puts-append}

-- kills, synced or not
pub kill-when : (syncs : Bool) (files : Files) (puts : List Put) → MayBePut [] puts → (left : Files) → KillMayLeave files (moves_when syncs puts) left → HasPrefix files puts left
kill-when true = each-kill-synced
kill-when false = each-kill

stop-when : (syncs : Bool) (files : Files) (puts : List Put) (next : Put) (more : List Move) → MayBePut [] (puts ++ next ∷ []) →
    IsFailedPut (placings_when syncs next.ends (staged_after [] puts) next) next more → (left : Files) → KillMayLeave files (moves_when syncs puts ++ more) left →
    HasPrefix files (puts ++ next ∷ []) left
stop-when true = each-killed-stop
stop-when false = each-stop

there-when : (syncs : Bool) (files : Files) (puts : List Put) → MayBePut [] puts → staged_after [] puts ≡ [] → Shows (standing files (moves_when syncs puts)) (after_puts files puts)
there-when true = all-there-synced
there-when false = all-there

no-moves : (syncs : Bool) → moves_when syncs [] ≡ []
no-moves true = refl
no-moves false = refl

pub holds-nothing : (syncs : Bool) (made : List Move) (staged : List Names) → made ≡ [] → staged ≡ [] →
    HoldsFiles syncs made staged 0 (record { before = sync_mark syncs; items = [] })
holds-nothing syncs made staged none idle = record {
  marked = refl;
  next = put_of (MasterItem []);
  more = [];
  made_are = none ∙ sym (append-nil (moves_when syncs []) ∙ no-moves syncs);
  stopped = inl (inl refl);
  none = λ _. refl;
  staged_are = λ _. idle;
}

-- no put changes whether the folder is synced
pub marked-same : (syncs syncs_then : Bool) → sync_mark syncs ≡ sync_mark syncs_then → syncs_then ≡ syncs
marked-same true true same = refl
marked-same true false same = absurd (cc same)
marked-same false true same = absurd (cc same)
marked-same false false same = refl

held-then : (syncs syncs_then : Bool) (made made_then : List Move) (staged staged_then : List Names) (failures : ℕ) (given : List ItemValue) → made ≡ [] → staged ≡ [] →
    Grows (HoldsFiles syncs made staged 0) (HoldsFiles syncs_then made_then staged_then failures) given →
    HoldsFiles syncs made_then staged_then failures (record { before = sync_mark syncs; items = given })
held-then syncs syncs_then made made_then staged staged_then failures given none idle grows =
    let h = grows.follows (record { before = sync_mark syncs; items = [] }) (holds-nothing syncs made staged none idle) in
    subst (λ (b : Bool). HoldsFiles b made_then staged_then failures (record { before = sync_mark syncs; items = given })) (marked-same syncs syncs_then h.marked) h

broken-then : (syncs syncs_then : Bool) (made made_then : List Move) (staged : List Names) (given : List ItemValue) (item : ItemValue) → made ≡ [] → staged ≡ [] →
    BreaksOff (HoldsFiles syncs made staged 0) (HoldsFilesUpTo syncs_then made_then) given item → HoldsFilesUpTo syncs made_then (record { before = sync_mark syncs; items = given }) item
broken-then syncs syncs_then made made_then staged given item none idle breaks =
    let h = breaks.follows (record { before = sync_mark syncs; items = [] }) (holds-nothing syncs made staged none idle) in
    subst (λ (b : Bool). HoldsFilesUpTo b made_then (record { before = sync_mark syncs; items = given }) item) (marked-same syncs syncs_then h.marked) h

pub made-moves : (syncs syncs_then : Bool) (made made_then : List Move) (staged staged_then : List Names) (failures : ℕ) (given : List ItemValue) → made ≡ [] → staged ≡ [] →
    Grows (HoldsFiles syncs made staged 0) (HoldsFiles syncs_then made_then staged_then failures) given → failures ≡ 0 → made_then ≡ moves_when syncs (puts_of given)
made-moves syncs syncs_then made made_then staged staged_then failures given none idle grows well =
    let h = held-then syncs syncs_then made made_then staged staged_then failures given none idle grows in
    h.made_are ∙ ap (λ (l : List Move). moves_when syncs (puts_of given) ++ l) (h.none well) ∙ append-nil (moves_when syncs (puts_of given))

pub each-kill-leaves : (syncs syncs_then : Bool) (made made_then : List Move) (staged staged_then : List Names) (failures : ℕ) (items given rest : List ItemValue) → made ≡ [] → staged ≡ [] →
    Grows (HoldsFiles syncs made staged 0) (HoldsFiles syncs_then made_then staged_then failures) given → failures ≡ 0 → AreBlocks items → items ≡ given ++ rest → EachKillLeaves made_then given
each-kill-leaves syncs syncs_then made made_then staged staged_then failures items given rest none idle grows well blocks all files left may =
    kill-when syncs files (puts_of given) (given-fit items given rest blocks all) left
    (subst (λ (l : List Move). KillMayLeave files l left) (made-moves syncs syncs_then made made_then staged staged_then failures given none idle grows well) may)

pub leave-all : (syncs syncs_then : Bool) (made made_then : List Move) (staged staged_then : List Names) (failures : ℕ) (items : List ItemValue) → made ≡ [] → staged ≡ [] →
    Grows (HoldsFiles syncs made staged 0) (HoldsFiles syncs_then made_then staged_then failures) items → failures ≡ 0 → AreBlocks items → LeaveAll made_then items
leave-all syncs syncs_then made made_then staged staged_then failures items none idle grows well blocks files =
    let fit = blocks-fit items blocks in
    subst (λ (l : List Move). Shows (standing files l) (after_puts files (puts_of items))) (sym (made-moves syncs syncs_then made made_then staged staged_then failures items none idle grows well))
    (there-when syncs files (puts_of items) fit.0 fit.1)

pub each-kill-breaks : (syncs syncs_then : Bool) (made made_then : List Move) (staged : List Names) (items given rest : List ItemValue) (item : ItemValue) → made ≡ [] → staged ≡ [] →
    BreaksOff (HoldsFiles syncs made staged 0) (HoldsFilesUpTo syncs_then made_then) given item → AreBlocks items → items ≡ given ++ item ∷ rest → EachKillLeaves made_then (given ++ item ∷ [])
each-kill-breaks syncs syncs_then made made_then staged items given rest item none idle breaks blocks all files left may =
    let h = broken-then syncs syncs_then made made_then staged given item none idle breaks in
    let fit : MayBePut [] (puts_of (given ++ item ∷ [])) = given-fit items (given ++ item ∷ []) rest blocks (all ∙ sym (append_assoc given (item ∷ []) rest)) in
    let more = puts-append given (item ∷ []) in
    subst (λ (l : List Put). HasPrefix files l left) (sym more)
    (stop-when syncs files (puts_of given) (put_of item) h.more (subst (λ (l : List Put). MayBePut [] l) more fit) h.stopped left
    (subst (λ (l : List Move). KillMayLeave files l left) h.made_are may))

pub each-loss-leaves : (syncs_then : Bool) (made made_then : List Move) (staged staged_then : List Names) (failures : ℕ) (items given rest : List ItemValue) → made ≡ [] → staged ≡ [] →
    Grows (HoldsFiles true made staged 0) (HoldsFiles syncs_then made_then staged_then failures) given → failures ≡ 0 → AreBlocks items → items ≡ given ++ rest → EachLossOfPowerLeaves made_then given
each-loss-leaves syncs_then made made_then staged staged_then failures items given rest none idle grows well blocks all files left may =
    each-loss files (puts_of given) (given-fit items given rest blocks all) left
    (subst (λ (l : List Move). PowerLossMayLeave files (Same files) l left) (made-moves true syncs_then made made_then staged staged_then failures given none idle grows well) may)

pub leave-all-on-disk : (syncs_then : Bool) (made made_then : List Move) (staged staged_then : List Names) (failures : ℕ) (items : List ItemValue) → made ≡ [] → staged ≡ [] →
    Grows (HoldsFiles true made staged 0) (HoldsFiles syncs_then made_then staged_then failures) items → failures ≡ 0 → AreBlocks items → LeaveAllOnDisk made_then items
leave-all-on-disk syncs_then made made_then staged staged_then failures items none idle grows well blocks files left may =
    let fit = blocks-fit items blocks in
    all-on-disk files (puts_of items) fit.0 fit.1 left
    (subst (λ (l : List Move). disk_after files (Same files) l left) (made-moves true syncs_then made made_then staged staged_then failures items none idle grows well) may)

pub each-loss-breaks : (syncs_then : Bool) (made made_then : List Move) (staged : List Names) (items given rest : List ItemValue) (item : ItemValue) → made ≡ [] → staged ≡ [] →
    BreaksOff (HoldsFiles true made staged 0) (HoldsFilesUpTo syncs_then made_then) given item → AreBlocks items → items ≡ given ++ item ∷ rest → EachLossOfPowerLeaves made_then (given ++ item ∷ [])
each-loss-breaks syncs_then made made_then staged items given rest item none idle breaks blocks all files left may =
    let h = broken-then true syncs_then made made_then staged given item none idle breaks in
    let fit : MayBePut [] (puts_of (given ++ item ∷ [])) = given-fit items (given ++ item ∷ []) rest blocks (all ∙ sym (append_assoc given (item ∷ []) rest)) in
    let more = puts-append given (item ∷ []) in
    subst (λ (l : List Put). HasPrefix files l left) (sym more)
    (each-lost-stop files (puts_of given) (put_of item) h.more (subst (λ (l : List Put). MayBePut [] l) more fit) h.stopped left
    (subst (λ (l : List Move). PowerLossMayLeave files (Same files) l left) h.made_are may))

-- items behind these change nothing
pub EachKillLeaves-more : (made : List Move) (items given rest : List ItemValue) → items ≡ given ++ rest → EachKillLeaves made given → EachKillLeaves made items
EachKillLeaves-more made items given rest all leaves files left may =
    let split : puts_of given ++ puts_of rest ≡ puts_of items = sym (ap puts_of all ∙ puts-append given rest) in
    subst (λ (l : List Put). HasPrefix files l left) split (HasPrefix-more files (puts_of given) (puts_of rest) left (leaves files left may))

pub EachLossOfPowerLeaves-more : (made : List Move) (items given rest : List ItemValue) → items ≡ given ++ rest → EachLossOfPowerLeaves made given → EachLossOfPowerLeaves made items
EachLossOfPowerLeaves-more made items given rest all leaves files left may =
    let split : puts_of given ++ puts_of rest ≡ puts_of items = sym (ap puts_of all ∙ puts-append given rest) in
    subst (λ (l : List Put). HasPrefix files l left) split (HasPrefix-more files (puts_of given) (puts_of rest) left (leaves files left may))
