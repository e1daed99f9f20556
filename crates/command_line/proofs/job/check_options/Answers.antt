use Rattle.std.proofs.Common.{ap, refl, subst, Err, List, ℕ}
use Rattle.std.proofs.lemmas.Result.{err_from_is_err_and}
use Rattle.command_line.specs.Refusals.{IsKeyListFault, files_view}
use Rattle.command_line.proofs.Refusals.{err-same, key-list-fault}
use Rattle.command_line.proofs.job.check_options.Goals as goal

pub returns-in_err-read_check_options-clause-fault : goal.returns-in_err-read_check_options-clause-fault
returns-in_err-read_check_options-clause-fault g c =
    let files = files_view (g.F.FileReader.gives c.args.files.now) (g.F.FileReader.refuses c.args.files.now) (g.F.FileReader.wants c.args.files.now) in
    let why = c.in_err-read_check_options.field-0.0 in
    let says = c.in_err-read_check_options.ensures in
    let told = err_from_is_err_and c.from_residual.result c.from_residual.ensures.1 in
    rw told.1 (
      why,
      told.2,
      subst (λ (text : List ℕ). IsKeyListFault files text why) c.check_words.ensures.keys
          (key-list-fault files c.check_words.result.keys.now why (λ e. says.bad.0 (ap Err e)) (λ e. err-same _ _ _ refl (says.bad.1 e)) (λ e. says.unread (ap Err e)) (λ n e. says.bad_file n (ap Err e))),
    )
