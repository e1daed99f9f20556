-- A ladder that goes on in its folder.
use Rattle.std.specs.Prelude.{◌≡◌, ◌<◌, ⊤, ℕ, List, [], length}
use Rattle.folder.specs.FileFolders.{file_moves, folder_path}
use Rattle.folder.specs.declared.file_folder.FileFolder.{FileFolder}
use Rattle.channel.specs.Resuming.{IsNotResumed, IsResumed}
use Rattle.channel.specs.Views.{FolderView, folder_view}
use Rattle.channel.specs.declared.fault.ResumingFault.{ResumingFault}
use Rattle.command_line.specs.declared.fault.Fault.{Fault}
use Rattle.command_line.specs.declared.fault.Fault.TheVariants.{Resuming}
use Rattle.command_line.specs.declared.job.LadderJob.{LadderJob}

-- one file at least may be found in a folder
pub record MayHoldFile (lists : List (List ℕ) → Type 0) : Type 0 where
  pub files : List (List ℕ)
  pub listed : lists files
  pub some : 0 < length files

-- behind an earlier run it is the one that was asked for, under other settings
pub record IsJobBehind (asked now : LadderJob) : Type 0 where
  pub pool : now.options.pool ≡ asked.options.pool
  pub paths : now.options.paths ≡ asked.options.paths
  pub folder : now.folder ≡ asked.folder
  pub resumes : now.resumes ≡ asked.resumes
  pub removes : now.removes ≡ asked.removes
  pub syncs : now.syncs ≡ asked.syncs
  pub metrics : now.metrics ≡ asked.metrics

-- what contracts see of a folder of the file system: what its files hold is the system's
abbrev pub file_view : (R : Type 0) → FolderView (FileFolder R)
file_view R = folder_view (λ _ _. ⊤) (λ _ _ _. ⊤) (λ _ _. ⊤) (λ _. ⊤) file_moves

-- its settings, and the numbers that no playlist lists any more, are those behind what was found in its folder
pub record GoesOn (R : Type 0) (asked now : LadderJob) (older : List (List ℕ)) : Type 0 where
  pub before : FileFolder R
  pub after : FileFolder R
  pub fresh : file_moves before ≡ []
  pub path : folder_path before ≡ asked.folder.now
  pub resumed : IsResumed (file_view R) asked.options.settings before after now.options.settings older

-- it doesn't, for what was found in its folder
pub record GoesNotOn (R : Type 0) (asked : LadderJob) (fault : Fault) : Type 0 where
  pub before : FileFolder R
  pub after : FileFolder R
  pub fresh : file_moves before ≡ []
  pub path : folder_path before ≡ asked.folder.now
  pub why : ResumingFault
  pub told : fault ≡ Resuming why
  pub refused : IsNotResumed (file_view R) asked.options.settings before after why
