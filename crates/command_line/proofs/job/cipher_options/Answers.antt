use Rattle.std.proofs.Common.{ap, Err}
use Rattle.std.proofs.lemmas.Result.{err_from_is_err_and}
use Rattle.clap.specs.Words.{found_of}
use Rattle.commands.specs.CipherWords.{cipher_words}
use Rattle.command_line.specs.Refusals.{files_view}
use Rattle.command_line.proofs.Refusals.{cipher-fault, cipher-refusal}
use Rattle.command_line.proofs.job.cipher_options.Goals as goal

pub returns-in_err-read_cipher_options-clause-fault : goal.returns-in_err-read_cipher_options-clause-fault
returns-in_err-read_cipher_options-clause-fault g c =
    let files = files_view (g.F.FileReader.gives c.args.files.now) (g.F.FileReader.refuses c.args.files.now) (g.F.FileReader.wants c.args.files.now) in
    let words = c.cipher_words.result in
    let why = c.in_err-read_cipher_options.field-0.0 in
    let says = c.in_err-read_cipher_options.ensures in
    let told = err_from_is_err_and c.from_residual.result c.from_residual.ensures.1 in
    rw told.1 (
      why,
      told.2,
      cipher-refusal files (found_of c.args.options.now) words why c.cipher_words.ensures.key c.cipher_words.ensures.seq c.cipher_words.ensures.iv
          (cipher-fault files (cipher_words words) why (λ e. says.bad_key.0 (ap Err e)) (λ e. says.bad_vector.0 (ap Err e)) (λ e. says.unread (ap Err e)) (λ n e. says.bad_file n (ap Err e)) (λ e. says.no_memory (ap Err e))),
    )
