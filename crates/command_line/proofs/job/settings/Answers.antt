use Rattle.std.proofs.Common.{ap, Err}
use Rattle.std.proofs.lemmas.Result.{err_from_is_err_and}
use Rattle.commands.specs.Defaults.{name_of, numbers_of}
use Rattle.commands.specs.Settings.{words_of}
use Rattle.command_line.specs.Refusals.{files_view}
use Rattle.command_line.proofs.Refusals.{settings-fault}
use Rattle.command_line.proofs.job.settings.Goals as goal

pub returns-in_err-read_settings-clause-fault : goal.returns-in_err-read_settings-clause-fault
returns-in_err-read_settings-clause-fault g c =
    let files = files_view (g.F.FileReader.gives c.args.files.now) (g.F.FileReader.refuses c.args.files.now) (g.F.FileReader.wants c.args.files.now) in
    let words = c.packing_words-words.result in
    let numbers = c.number_words.result in
    let why = c.in_err-read_settings.field-0.0 in
    let says = c.in_err-read_settings.ensures in
    let told = err_from_is_err_and c.from_residual.result c.from_residual.ensures.1 in
    let are = c.packing_words-words.ensures in
    rw told.1 (
      why,
      told.2,
      record {
        words = words_of words;
        words_are = record { name_is = ap name_of are.name; codecs_are = are.codecs; size_is = are.size; keys_are = are.keys; salt_is = are.salt; event_is = are.event };
        numbers = numbers;
        numbers_are = c.number_words.ensures;
        is = settings-fault files (words_of words) (numbers_of numbers) why (λ e. says.bad_key.0 (ap Err e)) (λ e. says.bad_size.0 (ap Err e)) (λ e. says.bad_vector.0 (ap Err e))
            (λ e. says.too_many.0 (ap Err e)) (λ e. says.zero_period.0 (ap Err e)) (λ e. says.settings (ap Err e)) (λ e. says.unread (ap Err e)) (λ n e. says.bad_file n (ap Err e)) (λ e. says.no_memory (ap Err e));
      },
    )
