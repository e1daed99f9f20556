-- How a line of the program ends: its status says whether what its words ask for was done.
use Rattle.std.specs.Prelude.{◌≡◌, ◌⊎◌, ℕ, true, false, List, [], Err, IfErr, MatchResult, Ok, OnOk, Option, Result, map}
use Rattle.folder.specs.declared.file_folder.FileFolder.{FileFolder}
use Rattle.ladder_items.specs.declared.report.Report.{Report}
use Rattle.packing.specs.LadderPacking.{WritesSummary}
use Rattle.read_ahead.specs.Sources.{Seen}
use Rattle.command_line.specs.Faults.{status_of}
use Rattle.command_line.specs.declared.fault.Fault.{Fault}
use Rattle.command_line.specs.declared.fault.Fault.TheVariants.{Busy}
use Rattle.command_line.specs.declared.job.Job.{Job}
use Rattle.command_line.specs.declared.job.Job.TheVariants.{Stream, Ladder as Packing}
use Rattle.command_line.specs.declared.job.LadderJob.{LadderJob}
use Rattle.command_line.specs.declared.job.StreamJob.{StreamJob}
use Rattle.command_line.specs.declared.job.StreamJob.TheVariants.{Check}
use Rattle.commands.specs.declared.check_options.CheckOptions.{CheckOptions}
use Rattle.program.specs.Channels.{GoesNotOn, GoesOn, IsJobBehind}
use Rattle.program.specs.LadderEnds.{FailsLadder, IsUnbegun}
use Rattle.program.specs.LadderRuns.{IsPrunedRun, IsWholeRun}
use Rattle.program.specs.Streaming.{DoesStream, FileView, IsOfStream, Passed}
use Rattle.program.specs.declared.ladder.LadderRun.{LadderRun}
use Rattle.program.specs.declared.told.Tellings.{Tellings}

-- the status is 0 where all went well, and else that of the fault
abbrev pub EndsBy : {V : Type 0} → Result V Fault → ℕ → Type 0
EndsBy answer status = MatchResult answer (λ _. status ≡ 0) (λ fault. status ≡ status_of fault)

-- nothing was read
abbrev pub IsUnread : Passed → Type 0
IsUnread p = (p.left_then ≡ p.left) × (p.reads ≡ 0) × (p.failures ≡ 0)

-- a command that reads in the calling thread did what it is for, or this stopped it
abbrev pub DoesOrStops : FileView → StreamJob → Passed → ℕ → Type 0
DoesOrStops files job p status =
    ((status ≡ 0) × DoesStream files.gives job p.left p.held p.held_then)
    ⊎ ((fault : Fault) × (status ≡ status_of fault) × IsOfStream files job p fault)

-- the same, and a check leaves its input alone
abbrev pub StreamEnds : FileView → StreamJob → Passed → ℕ → Type 0
StreamEnds files job p status = DoesOrStops files job p status × ((options : CheckOptions) → job ≡ Check options → IsUnread p)

-- A run of the ladder that was asked for, behind what an earlier one left in its folder if it goes on: each rendition was read from its
-- own input, and its files went to that folder. It ends well only where its summary was written.
pub record IsRunFor {R : Type 0} (holds : List ℕ → Option (List ℕ)) (asked : LadderJob) (held held_then : Option (List ℕ))
    (run : LadderRun Seen (FileFolder R)) : Type 0 where
  pub job : LadderJob
  pub older : List (List ℕ)
  pub behind : IsJobBehind asked job
  pub first : asked.resumes ≡ false → (job ≡ asked) × (older ≡ [])
  pub resumed : asked.resumes ≡ true → GoesOn R asked job older
  pub kept : Tellings
  pub whole : job.removes ≡ false → IsWholeRun (map (λ path. holds path.now) job.options.paths.items) job kept held held_then run
  pub pruned : job.removes ≡ true → IsPrunedRun (map (λ path. holds path.now) job.options.paths.items) job kept older held held_then run
  pub written : OnOk run.answer ((report : Report) × WritesSummary job.options.settings report held held_then)
  pub fault : IfErr run.answer (FailsLadder job.options.settings held held_then)

-- why a ladder isn't begun: another packager works in its folder, it doesn't go on there, memory is refused, or an input can't be opened
abbrev pub IsNoRun : (R : Type 0) → LadderJob → Fault → Type 0
IsNoRun R asked fault = (fault ≡ Busy) ⊎ GoesNotOn R asked fault ⊎ IsUnbegun fault

-- a ladder was run, and the status is that of its answer; or it wasn't begun, and nothing was written
abbrev pub PackEnds : (R : Type 0) → (List ℕ → Option (List ℕ)) → LadderJob → Option (List ℕ) → Option (List ℕ) → ℕ → Type 0
PackEnds R holds asked held held_then status =
    ((run : LadderRun Seen (FileFolder R)) × IsRunFor holds asked held held_then run × EndsBy run.answer status)
    ⊎ ((fault : Fault) × (status ≡ status_of fault) × IsNoRun R asked fault × (held_then ≡ held))

-- A line asks for a command, which ends so, and a ladder reads its own inputs alone; or it is refused, and nothing is read or written.
abbrev pub LineEnds : (R : Type 0) → (List ℕ → Option (List ℕ)) → FileView → Result Job Fault → Passed → ℕ → Type 0
LineEnds R holds files (Ok (Stream job)) p status = StreamEnds files job p status
LineEnds R holds files (Ok (Packing job)) p status = PackEnds R holds job p.held p.held_then status × IsUnread p
LineEnds R holds files (Err fault) p status = (status ≡ status_of fault) × IsUnread p × (p.held_then ≡ p.held)
