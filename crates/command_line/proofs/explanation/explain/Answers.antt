use Rattle.std.proofs.Common.{rules, ◌≡◌, ◌∙◌, ap, map, refl, subst, sym}
use Rattle.clap.specs.Values.{kind_of}
use Rattle.clap.specs.Words.{found_of, is_simple, rows_of, subcommand_of, subcommand_rows_of, takes}
use Rattle.command_line.specs.Jobs.{IsCommand}
use Rattle.command_line.specs.Options.{tshls}
use Rattle.command_line.proofs.Matched.{is_matched, nothing-matched, tshls_is_simple}
use Rattle.clap.specs.declared.error.kind.ErrorKind.TheVariants.{OutOfMemory}
use Rattle.command_line.proofs.explanation.explain.Goals as goal

pub returns-in-Err-2-clause-told : goal.returns-in-Err-2-clause-told
returns-in-Err-2-clause-told g c = λ other taken command.
    let words = map g.S.AsStr.text c.args.words.now in
    let memory : kind_of c.in-Err.error ≡ OutOfMemory = c.in-Err.ensures.passes (ap (λ a. takes a words) c.in_ok-program.ensures.app ∙ taken) in
    absurd (search (rules, memory))

pub returns-in-Some-clause-words : goal.returns-in-Some-clause-words
returns-in-Some-clause-words g c =
    let app = c.in_ok-program.ensures.app in
    let words = map g.S.AsStr.text c.args.words.now in
    let matched : subcommand_rows_of c.in-Ok.matches ≡ subcommand_of tshls words =
    (c.in-Ok.ensures.ok (ap is_simple app ∙ tshls_is_simple)).1 ∙ ap (λ a. subcommand_of a words) app in
    let mine = is_matched c.in-Ok.matches _ _ (rows_of (found_of c.in-Some.options.now)) refl c.in-Some.ensures.name c.in-Some.ensures.rows in
    record { name = _; found = found_of c.in-Some.options.now; is_matched = sym matched ∙ mine; is = c.in_ok-explained-in-Some.ensures.words }

pub returns-clause-told : goal.returns-clause-told
returns-clause-told g c = λ other taken command.
    let app = c.in_ok-program.ensures.app in
    let words = map g.S.AsStr.text c.args.words.now in
    let matched : subcommand_rows_of c.in-Ok.matches ≡ subcommand_of tshls words =
    (c.in-Ok.ensures.ok (ap is_simple app ∙ tshls_is_simple)).1 ∙ ap (λ a. subcommand_of a words) app in
    absurd (nothing-matched (subcommand_rows_of c.in-Ok.matches) c.in-None.ensures.rows (subst IsCommand (sym matched) command))
