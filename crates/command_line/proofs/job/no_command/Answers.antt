use Rattle.std.proofs.Common.{◌≡◌, ◌≢◌, Ok, Err, IfOk, IfErr, Result}
use Rattle.std.specs.declared.alloc.AllocError.{AllocError}
use Rattle.clap.specs.Values.{kind_of}
use Rattle.clap.specs.declared.error.Error.{Error}
use Rattle.clap.specs.declared.error.kind.ErrorKind.TheVariants.{MissingSubcommand, OutOfMemory}
use Rattle.command_line.specs.Faults.{IsRefusal}
use Rattle.command_line.specs.declared.fault.Fault.{Fault}
use Rattle.command_line.specs.declared.fault.Fault.TheVariants.{NoMemory, Usage}
use Rattle.command_line.proofs.job.no_command.Goals as goal

-- What is told is a refusal that was made, and so of the same kind.
missing : (made : Result Error AllocError) (fault : Fault) → IfOk made (λ error. kind_of error ≡ MissingSubcommand) → IfOk made (λ error. IsRefusal error fault) → IfErr made (λ _. fault ≡ NoMemory) →
    (error : Error) → fault ≡ Usage error → kind_of error ≡ MissingSubcommand
missing (Ok why) fault kind told none error is =
    let other : kind_of why ≢ OutOfMemory = λ out. cc in
    let same : fault ≡ Usage why = told.usage other in
    cc
missing (Err why) fault kind told none error is = cc

pub returns-clause-told : goal.returns-clause-told
returns-clause-told c = missing c.no_command.result c.refusal.result c.no_command.ensures.kind c.refusal.ensures.made c.refusal.ensures.scarce
