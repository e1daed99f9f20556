-- What a ladder was packed from, and into what.
use Rattle.std.specs.Prelude.{◌≡◌, ◌↔◌, ◌<◌, ℕ, All, IfErr, IfOk, IfSome, IsSome, IsSomeAnd, List, [], None, OnOk, Option, Result, length, map, option_map, replicate}
use Rattle.folder.specs.FileFolders.{file_moves, folder_path, may_sync}
use Rattle.folder.specs.declared.file_folder.FileFolder.{FileFolder}
use Rattle.item_io.specs.FolderMoves.{FolderState}
use Rattle.item_io.specs.declared.limits.TheConstants.{READS}
use Rattle.keeping.specs.Holding.{KeepingState}
use Rattle.keeping.specs.InPlace.{NoneIsListed}
use Rattle.keeping.specs.Keepings.{KeepingValue, Stay}
use Rattle.ladder_items.specs.Ladder.{Ladder}
use Rattle.ladder_items.specs.Runs.{Run}
use Rattle.ladder_items.specs.declared.fault.PackFault.{PackFault}
use Rattle.ladder_items.specs.declared.report.Report.{Report}
use Rattle.ladder_items.specs.declared.settings.Kind.TheVariants.{Live, Event}
use Rattle.live_board.specs.Counts.{counts_shown}
use Rattle.live_board.specs.Snapshots.{SnapshotFacts}
use Rattle.rounds.specs.Shown.{IsPackedShown}
use Rattle.read_ahead.specs.Sources.{Seen, ahead_input, inputs_of}
use Rattle.read_ahead.specs.declared.view.InputsView.{InputsView}
use Rattle.commands.specs.declared.packing_fault.LadderPackingFault.{LadderPackingFault}
use Rattle.command_line.specs.declared.fault.Fault.{Fault}
use Rattle.command_line.specs.declared.fault.Fault.TheVariants.{LadderPacking}
use Rattle.command_line.specs.declared.job.LadderJob.{LadderJob}
use Rattle.packing.specs.FolderPacking.{LeavesPlayable, folder_run}
use Rattle.packing.specs.LadderPacking.{LadderSays}
use Rattle.packing.specs.declared.destination.Destination.{Destination}
use Rattle.removal.specs.Removing.{AreAllCleared, LeavesKept, kept_run, new_keeping}
use Rattle.removal.specs.Retaining.{AreKeptFor}
use Rattle.program.specs.Asked.{IsAsAsked}
use Rattle.program.specs.declared.ladder.LadderOutlet.{LadderOutlet}
use Rattle.program.specs.declared.ladder.LadderOutlet.TheVariants.{Pruned, Whole}
use Rattle.program.specs.declared.ladder.LadderRun.{LadderRun}
use Rattle.program.specs.LadderEnds.{ended_by}
use Rattle.program.specs.Metered.{IsLastLook, IsWriterFor}
use Rattle.program.specs.declared.metrics_writer.Writer.{Writer}
use Rattle.program.specs.declared.told.Tellings.{Tellings}
use Rattle.program.specs.declared.watching.RunLook.{RunLook}
use Rattle.program.specs.declared.watching.RunLook.TheVariants as look

-- inputs that were just opened, of which these bytes are left, in this order; they are read ahead as was asked
pub record AreOpened (job : LadderJob) (left : List (Option (List ℕ))) (inputs : List Seen) : Type 0 where
  pub left_is : map (λ (s : Seen). s.left) inputs ≡ left
  pub unread : All (λ (s : Seen). (s.reads ≡ 0) × (s.failures ≡ 0)) inputs
  pub limits : All (λ (s : Seen). IsAsAsked job.options.pool.stall job.options.pool.ahead (length job.options.paths.items) s.stall s.is_file s.room) inputs

-- a view is of all of so many inputs; there is none where there is no input
abbrev pub ShowsAll : ℕ → Option InputsView → Type 0
ShowsAll inputs view = (IsSome view ↔ 0 < inputs) × IfSome view (λ all. inputs_of all ≡ inputs)

-- the folder that was asked for, to which nothing was done yet
pub record IsAskedFor {R : Type 0} (job : LadderJob) (into : Destination (FileFolder R)) : Type 0 where
  pub fresh : file_moves into.folder ≡ []
  pub path : folder_path into.folder ≡ job.folder.now
  pub may : may_sync into.folder ≡ job.syncs
  pub syncs : into.syncs ≡ job.syncs

-- How a run was watched that published this and ended by this fault: not at all where no metrics were asked for; else the last metrics in
-- their file show all of it, of its own renditions, of all its inputs and of what it told of itself, or it was told that they can't be
-- written.
abbrev pub IsWatched : List (List ℕ) → ℕ → Option (List ℕ) → Tellings → List SnapshotFacts → Option PackFault → RunLook → Type 0
IsWatched names inputs file kept shown last look.Unasked = file ≡ None
IsWatched names inputs file kept shown last (look.Unwritten told) = IsSome file
IsWatched names inputs file kept shown last (look.Last seen) = IsSomeAnd file (λ path. (view : Option InputsView) × (writer : Writer)
    × ShowsAll inputs view × IsWriterFor names path view kept writer × IsLastLook writer shown last seen)

-- A run ended so: its board had a place for each rendition and no segment, and all was packed and shown, or its fault says what was.
pub record EndsSo {Y V : Type 0} (run : Run Seen Y) (job : LadderJob) (kept : Tellings) (held held_then : Option (List ℕ)) (answer : Result V Fault) (look : RunLook) : Type 0 where
  pub old : List SnapshotFacts
  pub new : List SnapshotFacts
  pub first : counts_shown old ≡ replicate (length job.options.settings.renditions) 0
  pub ok : OnOk answer ((report : Report) × IsPackedShown run job.options.settings job.options.pool.workers old new report)
  pub fault : IfErr answer (λ fault. (why : LadderPackingFault) × (fault ≡ LadderPacking why)
      × LadderSays run job.options.settings job.options.pool.workers old new held held_then why)
  pub watched : IsWatched (map (λ r. r.name) job.options.settings.renditions) (length job.options.paths.items)
      (option_map (λ t. t.now) job.metrics) kept new (ended_by answer) look

-- each rendition was read from its own input, and put into the folder
pub record IsWholeRun {R : Type 0} (left : List (Option (List ℕ))) (job : LadderJob) (kept : Tellings) (held held_then : Option (List ℕ)) (run : LadderRun Seen (FileFolder R)) : Type 0 where
  pub inputs : List Seen
  pub opened : AreOpened job left inputs
  pub into : Destination (FileFolder R)
  pub asked : IsAskedFor job into
  pub outlet : FolderState (FileFolder R)
  pub is : run.outlet ≡ Whole outlet
  pub leaves : LeavesPlayable job.options.settings into.syncs (file_moves outlet.folder)
  pub ends : EndsSo (folder_run ahead_input file_moves READS inputs run.sources.items into outlet) job kept held held_then run.answer run.look

-- the same, and its segments are kept for as long as the settings, and what earlier runs left, ask for
pub record IsPrunedRun {R : Type 0} (left : List (Option (List ℕ))) (job : LadderJob) (tellings : Tellings) (older : List (List ℕ)) (held held_then : Option (List ℕ)) (run : LadderRun Seen (FileFolder R)) : Type 0 where
  pub inputs : List Seen
  pub opened : AreOpened job left inputs
  pub into : Destination (FileFolder R)
  pub asked : IsAskedFor job into
  pub kept : List KeepingValue
  pub live : job.options.settings.kind ≡ Live → AreKeptFor job.options.settings older kept
  pub event : job.options.settings.kind ≡ Event → kept ≡ []
  pub outlet : KeepingState (FileFolder R)
  pub is : run.outlet ≡ Pruned outlet
  pub same : Stay kept outlet.renditions
  pub leaves : LeavesKept job.options.settings into.syncs (file_moves outlet.files.folder) outlet.renditions
  pub unlisted : OnOk run.answer (NoneIsListed (file_moves outlet.files.folder) outlet.renditions)
  pub cleared : OnOk run.answer (AreAllCleared job.options.settings outlet.missed outlet.renditions)
  pub ends : EndsSo (kept_run ahead_input file_moves READS inputs run.sources.items (new_keeping into kept) outlet) job tellings held held_then run.answer run.look
