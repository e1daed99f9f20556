use Rattle.std.proofs.Common.{◌≡◌, ◌∙◌, inl, inr, ap, subst, sym, map, IfOk}
use Rattle.std.proofs.lemmas.Result.{IfErr-weaker, err_from_is_err_and}
use Rattle.clap.specs.Values.{kind_of}
use Rattle.clap.specs.Words.{App, IsAmong, fault_of, is_simple_and_free, is_simple, subcommand_of, subcommand_rows_of, takes}
use Rattle.command_line.specs.Jobs.{IsCommand, IsJobOf}
use Rattle.command_line.specs.Options.{tshls}
use Rattle.command_line.proofs.Matched.{tshls_is_free, tshls_is_simple}
use Rattle.command_line.specs.Refusals.{files_view}
use Rattle.command_line.proofs.Refusals.{err-same, no-line, same-job, usage-among}
use Rattle.command_line.specs.declared.fault.Fault.TheVariants.{Usage}
use Rattle.command_line.proofs.job.line.Goals as goal

pub returns-in_err-matches-clause-fault : goal.returns-in_err-matches-clause-fault
returns-in_err-matches-clause-fault g c =
    let words = map g.S.AsStr.text c.args.words.now in
    let told = err_from_is_err_and c.from_residual-in_err-matches.result c.from_residual-in_err-matches.ensures.1 in
    let files = files_view (g.F.FileReader.gives c.args.files.now) (g.F.FileReader.refuses c.args.files.now) (g.F.FileReader.wants c.args.files.now) in
    rw told.1 (no-line files (subcommand_of tshls words) told.0 (λ other taken _. other (c.in_err-matches.ensures.passes (ap (λ a. takes a words) c.in_ok-program.ensures.app ∙ taken))) told.2.early)

pub returns-clause-job : goal.returns-clause-job
returns-clause-job g c =
    let app = c.in_ok-program.ensures.app in
    let words = map g.S.AsStr.text c.args.words.now in
    let matched : subcommand_rows_of c.in_ok-matches.matches ≡ subcommand_of tshls words =
    (c.in_ok-matches.ensures.ok (ap is_simple app ∙ tshls_is_simple)).1 ∙ ap (λ a. subcommand_of a words) app in
    subst (λ it. IfOk c.job_of.result (IsJobOf (g.F.FileReader.gives c.args.files.now) it)) matched c.job_of.ensures.job

pub returns-clause-fault : goal.returns-clause-fault
returns-clause-fault g c =
    let app = c.in_ok-program.ensures.app in
    let words = map g.S.AsStr.text c.args.words.now in
    let matched : subcommand_rows_of c.in_ok-matches.matches ≡ subcommand_of tshls words =
    (c.in_ok-matches.ensures.ok (ap is_simple app ∙ tshls_is_simple)).1 ∙ ap (λ a. subcommand_of a words) app in
    let files = files_view (g.F.FileReader.gives c.args.files.now) (g.F.FileReader.refuses c.args.files.now) (g.F.FileReader.wants c.args.files.now) in
    IfErr-weaker c.job_of.result _ _ (λ fault is. same-job files _ _ fault matched (λ none _ command. none (subst IsCommand (sym matched) command)) is) c.job_of.ensures.fault

pub returns-in_err-matches-clause-usage : goal.returns-in_err-matches-clause-usage
returns-in_err-matches-clause-usage g c error is =
    let app = c.in_ok-program.ensures.app in
    let words = map g.S.AsStr.text c.args.words.now in
    let told = err_from_is_err_and c.from_residual-in_err-matches.result c.from_residual-in_err-matches.ensures.1 in
    let same = err-same told.0 (Usage error) c.from_residual-in_err-matches.result told.1 is in
    inl (subst (λ (a : App). IsAmong (kind_of error) (fault_of a words)) app
    (usage-among _ _ error told.0 same told.2 (c.in_err-matches.ensures.kinds (ap is_simple_and_free app ∙ tshls_is_free))))

pub returns-clause-usage : goal.returns-clause-usage
returns-clause-usage g c error is =
    let app = c.in_ok-program.ensures.app in
    let words = map g.S.AsStr.text c.args.words.now in
    let matched : subcommand_rows_of c.in_ok-matches.matches ≡ subcommand_of tshls words =
    (c.in_ok-matches.ensures.ok (ap is_simple app ∙ tshls_is_simple)).1 ∙ ap (λ a. subcommand_of a words) app in
    let told = c.job_of.ensures.usage error is in
    inr (subst (λ it. IsCommand it → ⊥) matched told.0, told.1)
