-- How a line ends, by its answer and its status.
use Rattle.std.specs.Prelude.{◌≡◌, ◌⊎◌, ℕ, Err, IfErr, Ok, OnOk, Result}
use Rattle.std.proofs.Common.{inl, inr}
use Rattle.command_line.specs.Faults.{status_of}
use Rattle.command_line.specs.declared.fault.Fault.{Fault}
use Rattle.command_line.specs.declared.fault.Fault.TheVariants.{NoMemory}
use Rattle.command_line.specs.declared.job.LadderJob.{LadderJob}
use Rattle.command_line.specs.declared.job.StreamJob.{StreamJob}
use Rattle.program.specs.Channels.{GoesNotOn}
use Rattle.program.specs.Lines.{DoesOrStops, EndsBy, IsNoRun}
use Rattle.program.specs.Streaming.{DoesStream, FileView, IsOfStream, Passed}

pub stream-ends : {V : Type 0} (files : FileView) (job : StreamJob) (p : Passed) (status : ℕ) (answer : Result V Fault) →
    OnOk answer (DoesStream files.gives job p.left p.held p.held_then) → IfErr answer (IsOfStream files job p) →
    OnOk answer (status ≡ 0) → IfErr answer (λ fault. status ≡ status_of fault) → DoesOrStops files job p status
stream-ends files job p status (Ok v) does fails well told = inl (well, does)
stream-ends files job p status (Err fault) does fails well told = inr (fault, told, fails)

pub ends-by : {V : Type 0} (answer : Result V Fault) (status : ℕ) → OnOk answer (status ≡ 0) → IfErr answer (λ fault. status ≡ status_of fault) → EndsBy answer status
ends-by (Ok v) status well told = well
ends-by (Err fault) status well told = told

-- a ladder that doesn't go on isn't begun
pub no-run : (R : Type 0) (asked : LadderJob) (fault : Fault) → (fault ≡ NoMemory) ⊎ GoesNotOn R asked fault → IsNoRun R asked fault
no-run R asked fault (inl none) = inr (inr (inl none))
no-run R asked fault (inr goes) = inr (inl goes)
