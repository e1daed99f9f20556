-- What a whole run of it did.
use Rattle.std.proofs.Common.{arith, ◌≡◌, inl, inr, ◌<◌, ◌∙◌, refl, sym, ap, subst, ℕ, zero, suc, List, [], ◌∷◌, All, length, Option, Some, None}
use Rattle.std.specs.Prelude.{slice_get}
use Rattle.std.proofs.lemmas.List.{length-map}
use Rattle.std.proofs.lemmas.List.Elements.{All-nil}
use Rattle.std.proofs.lemmas.Option.{slice_get_within}
use Rattle.limits.specs.declared.TheConstants.{MOST_KEYS}
use Rattle.ladder_items.specs.Ladder.{Ladder}
use Rattle.media_playlist.specs.Rows.{SegmentRow}
use Rattle.resume.specs.Restoring.{RestoredValue}
use Rattle.resume.specs.declared.restored.Wanted.{Wanted}
use Rattle.channel_folder.specs.declared.asked.Asked.{Asked}
use Rattle.channel_folder.specs.declared.fault.ReopenFault.{ReopenFault}
use Rattle.channel_folder.specs.declared.fault.ReopenFault.TheVariants as Reopen
use Rattle.channel_folder.specs.Scans.{IsScan, ScanValue}
use Rattle.channel_folder.specs.Reopened.{IsOf, ReopenedValue}
use Rattle.channel_folder.specs.Shut.{CannotRead, IsShutOf}
use Rattle.channel_folder.specs.Stopped.{IsNotReopened}
use Rattle.channel.specs.declared.fault.ResumingFault.{ResumingFault}
use Rattle.channel.specs.declared.fault.ResumingFault.TheVariants.{Unread, Outlet, NoMemory, Not, OtherKeys}
use Rattle.channel.specs.Faults.{of_reopening}
use Rattle.channel.specs.GoingOn.{IsPastFault}
use Rattle.channel.specs.Looking.{IsLookFault, TakeTurns, rows_of}
use Rattle.channel.specs.Reading.{AsksFor, IsReadBack, IsReadFault, IsReopenedFor, IsScanFault, names_of, wanted_of}
use Rattle.channel.specs.Resuming.{IsNotResumed}
use Rattle.channel.specs.Rolling.{IsOnlyRolled, RollingStops, RollsEach}
use Rattle.channel.specs.Views.{FolderView}
use Rattle.channel.proofs.Rolls.{rolls-all}

refuses-of : (Refuses : Type 0) (Shuts : List ℕ → Type 0) (Gives : List ℕ → List ℕ → Type 0) (Lacks : List ℕ → Type 0) (a : Asked) →
    IsShutOf (CannotRead Refuses Shuts) Gives Lacks a → Refuses
refuses-of Refuses Shuts Gives Lacks a (inl (inl first)) = first.0
refuses-of Refuses Shuts Gives Lacks a (inl (inr second)) = second.2.0
refuses-of Refuses Shuts Gives Lacks a (inr listed) = listed.shut.shut.0

pub asks-count : (ladder : Ladder) (asked : List Asked) → AsksFor ladder asked → length asked ≡ length ladder.renditions
asks-count ladder asked asks =
    sym (length-map asked (λ (a : Asked). (a.name.now, a.wanted))) ∙ (ap length asks ∙ length-map ladder.renditions (wanted_of ladder))

turns-of : (Gives : List ℕ → List ℕ → Type 0) (Lacks : List ℕ → Type 0) (name : List ℕ) (wanted : Wanted) (one : Option RestoredValue) → IsOf Gives Lacks name wanted one →
    All (λ (row : SegmentRow). row.key < MOST_KEYS) (rows_of one)
turns-of Gives Lacks name wanted None is = All-nil (λ (row : SegmentRow). row.key < MOST_KEYS)
turns-of Gives Lacks name wanted (Some r) is = is.restored.may_go_on.turns

-- whatever is asked for there
turns-at : (Gives : List ℕ → List ℕ → Type 0) (Lacks : List ℕ → Type 0) (asked : List Asked) (r : ℕ) (one : Option RestoredValue) → r < length asked →
    ((a : Asked) → slice_get asked r ≡ Some a → IsOf Gives Lacks a.name.now a.wanted one) → All (λ (row : SegmentRow). row.key < MOST_KEYS) (rows_of one)
turns-at Gives Lacks [] r one lt is = absurd (omega (arith, lt))
turns-at Gives Lacks (a ∷ asked) zero one lt is = turns-of Gives Lacks a.name.now a.wanted one (is a refl)
turns-at Gives Lacks (a ∷ asked) (suc r) one lt is = turns-at Gives Lacks asked r one (omega (arith, lt)) is

module _ {F : Type 0} (folder : FolderView F) (ladder : Ladder) where
  -- as many were reopened as there are
  pub reopened-count : (at : F) (scan : ScanValue) (reopened : ReopenedValue) → IsReopenedFor folder at ladder scan reopened → length reopened.found ≡ length ladder.renditions
  reopened-count at scan reopened all = all.are.all.each ∙ asks-count ladder all.asked all.asks

  -- their keys are of those that may be
  pub reopened-turns : (at : F) (scan : ScanValue) (reopened : ReopenedValue) → IsReopenedFor folder at ladder scan reopened → TakeTurns reopened.found
  reopened-turns at scan reopened all r one is =
      let within : r < length all.asked = omega (arith, slice_get_within reopened.found r one is, all.are.all.each) in
      turns-at (folder.gives at) (folder.lacks at) all.asked r one within (λ a here. (all.are.all.stand r a one within here is).is)

  -- one isn't reopened
  pub not-reopened : (at : F) (scan : ScanValue) (asked : List Asked) (fault : ReopenFault) → AsksFor ladder asked →
      IsNotReopened (CannotRead (folder.refuses at) (folder.shuts at)) (folder.gives at) (folder.lacks at) scan ladder.kind asked fault → IsReadFault folder at ladder scan (of_reopening fault)
  not-reopened at scan asked Reopen.Unread asks is = inl (record { asked = asked; asks = asks; is = is })
  not-reopened at scan asked Reopen.NoMemory asks is = tt
  not-reopened at scan asked (Reopen.Of r why) asks is = inl (record { asked = asked; asks = asks; is = is })

  -- a key doesn't open
  pub not-opened : (at : F) (scan : ScanValue) (reopened : ReopenedValue) (fault : ResumingFault) → IsReopenedFor folder at ladder scan reopened →
      IsLookFault (CannotRead (folder.refuses at) (folder.shuts at)) (folder.gives at) (folder.lacks at) ladder.renditions reopened.found fault → IsReadFault folder at ladder scan fault
  not-opened at scan reopened Unread all look = inr (record { reopened = reopened; all = all; shut = look })
  not-opened at scan reopened Outlet all look = look.is.told
  not-opened at scan reopened NoMemory all look = tt
  not-opened at scan reopened (Not r why) all look = inr (record { reopened = reopened; all = all; shut = look })
  not-opened at scan reopened (OtherKeys r key) all look = record { reopened = reopened; all = all; shut = look }

  none-rolled : (now : F) → IsOnlyRolled folder (names_of ladder.renditions) now now
  none-rolled now = record { done = []; rest = names_of ladder.renditions; all = refl; rolls = refl }

  -- the folder isn't looked at
  pub not-scanned : (now : F) (fault : ResumingFault) → IsScanFault (folder.refuses now) fault → IsNotResumed folder ladder now now fault
  not-scanned now Unread is = (none-rolled now, is)
  not-scanned now Outlet is = absurd is
  not-scanned now NoMemory is = none-rolled now
  not-scanned now (Not r why) is = absurd is
  not-scanned now (OtherKeys r key) is = absurd is

  rolled-before : (before now : F) (fault : ResumingFault) → (s : RollingStops folder (names_of ladder.renditions) before now fault) → now ≡ s.mid → IsOnlyRolled folder (names_of ladder.renditions) before now
  rolled-before before now fault s same = record {
    done = s.done;
    rest = s.next ∷ s.rest;
    all = s.all;
    rolls = subst (λ (x : F). RollsEach folder s.done before x) (sym same) s.rolls;
  }

  -- a block isn't rolled forward
  pub not-rolled : (before now : F) (fault : ResumingFault) → RollingStops folder (names_of ladder.renditions) before now fault → IsNotResumed folder ladder before now fault
  not-rolled before now Unread s = (rolled-before before now Unread s s.stops.0, subst (λ (x : F). folder.refuses x) (sym s.stops.0) s.stops.1)
  not-rolled before now Outlet s = inl s
  not-rolled before now NoMemory s = rolled-before before now NoMemory s s.stops
  not-rolled before now (Not r why) s = absurd s.stops
  not-rolled before now (OtherKeys r key) s = absurd s.stops

  -- what can't be read is refused
  refuses-back : (at : F) (scan : ScanValue) → IsReadFault folder at ladder scan Unread → folder.refuses at
  refuses-back at scan (inl not) = refuses-of (folder.refuses at) (folder.shuts at) (folder.gives at) (folder.lacks at) not.is.one not.is.shut
  refuses-back at scan (inr shut) = shut.shut.is.told.0

  -- what was left isn't read back
  pub not-back : (before now : F) (scan : ScanValue) (fault : ResumingFault) → IsScan (folder.lists before) (names_of ladder.renditions) scan → RollsEach folder (names_of ladder.renditions) before now →
      IsReadFault folder now ladder scan fault → IsNotResumed folder ladder before now fault
  not-back before now scan Unread scanned rolls is = (rolls-all folder (names_of ladder.renditions) before now rolls, refuses-back now scan is)
  not-back before now scan Outlet scanned rolls is = absurd is
  not-back before now scan NoMemory scanned rolls is = rolls-all folder (names_of ladder.renditions) before now rolls
  not-back before now scan (Not r why) scanned rolls is = record { scan = scan; scanned = scanned; rolls = rolls; why = inl is }
  not-back before now scan (OtherKeys r key) scanned rolls is = record { scan = scan; scanned = scanned; rolls = rolls; why = inl is }

  -- one would begin past the last number
  pub not-begun : (before now : F) (scan : ScanValue) (reopened : ReopenedValue) (fault : ResumingFault) → IsScan (folder.lists before) (names_of ladder.renditions) scan →
      RollsEach folder (names_of ladder.renditions) before now → IsReadBack folder now ladder scan reopened → IsPastFault reopened.found reopened.most fault → IsNotResumed folder ladder before now fault
  not-begun before now scan reopened Unread scanned rolls back past = absurd past
  not-begun before now scan reopened Outlet scanned rolls back past = absurd past
  not-begun before now scan reopened NoMemory scanned rolls back past = absurd past
  not-begun before now scan reopened (Not r why) scanned rolls back past = record { scan = scan; scanned = scanned; rolls = rolls; why = inr (record { reopened = reopened; back = back; past = past }) }
  not-begun before now scan reopened (OtherKeys r key) scanned rolls back past = absurd past
