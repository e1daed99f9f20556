use Rattle.std.proofs.Common.{rules, ◌≡◌, codes, inl, inr, refl, subst, sym}
use Rattle.std.proofs.lemmas.Result.{err_from_is_err_and}
use Rattle.clap.specs.Words.{found_of, rows_of, subcommand_rows_of}
use Rattle.command_line.proofs.Matched.{is_matched, not_command}
use Rattle.command_line.specs.declared.fault.Fault.{Fault}
use Rattle.command_line.specs.declared.fault.Fault.TheVariants.{NoMemory, Usage}
use Rattle.command_line.specs.Refusals.{AreNoKeys, AreNoSettings, IsNoCipher, IsNoLadder, files_view}
use Rattle.command_line.proofs.Refusals.{err-same, ladder-memory, ladder-no-usage, no-cipher, no-keys, no-ladder, no-line, no-settings}
use Rattle.command_line.proofs.job.job_of.Goals as goal

pub returns-in_ok-options-in-seal-clause-job : goal.returns-in_ok-options-in-seal-clause-job
returns-in_ok-options-in-seal-clause-job g c =
    let named : c.in-Some.name.now ≡ codes "seal" = search rules in
    let rows = rows_of (found_of c.in-Some.options.now) in
    (found_of c.in-Some.options.now, is_matched c.args.matches.now c.in-Some.name.now (codes "seal") rows named c.in-Some.ensures.name c.in-Some.ensures.rows, c.in_ok-options-in-seal.ensures.job)

pub returns-in_ok-options-in-open-clause-job : goal.returns-in_ok-options-in-open-clause-job
returns-in_ok-options-in-open-clause-job g c =
    let named : c.in-Some.name.now ≡ codes "open" = search rules in
    let rows = rows_of (found_of c.in-Some.options.now) in
    (found_of c.in-Some.options.now, is_matched c.args.matches.now c.in-Some.name.now (codes "open") rows named c.in-Some.ensures.name c.in-Some.ensures.rows, c.in_ok-options-in-open.ensures.job)

pub returns-in_ok-settings-in-one-clause-job : goal.returns-in_ok-settings-in-one-clause-job
returns-in_ok-settings-in-one-clause-job g c =
    let named : c.in-Some.name.now ≡ codes "one" = search rules in
    let rows = rows_of (found_of c.in-Some.options.now) in
    (found_of c.in-Some.options.now, is_matched c.args.matches.now c.in-Some.name.now (codes "one") rows named c.in-Some.ensures.name c.in-Some.ensures.rows, c.in_ok-settings-in-one.ensures.job)

pub returns-in_ok-job-in-pack-clause-job : goal.returns-in_ok-job-in-pack-clause-job
returns-in_ok-job-in-pack-clause-job g c =
    let named : c.in-Some.name.now ≡ codes "pack" = search rules in
    let rows = rows_of (found_of c.in-Some.options.now) in
    (found_of c.in-Some.options.now, is_matched c.args.matches.now c.in-Some.name.now (codes "pack") rows named c.in-Some.ensures.name c.in-Some.ensures.rows, c.in_ok-job-in-pack.ensures.job)

pub returns-in_ok-options-in-check-clause-job : goal.returns-in_ok-options-in-check-clause-job
returns-in_ok-options-in-check-clause-job g c =
    let named : c.in-Some.name.now ≡ codes "check" = search rules in
    let rows = rows_of (found_of c.in-Some.options.now) in
    (found_of c.in-Some.options.now, is_matched c.args.matches.now c.in-Some.name.now (codes "check") rows named c.in-Some.ensures.name c.in-Some.ensures.rows, c.in_ok-options-in-check.ensures.job)

pub returns-in_default-name-clause-fault : goal.returns-in_default-name-clause-fault
returns-in_default-name-clause-fault g c =
    let name = c.in-Some.name.now in
    let rows = rows_of (found_of c.in-Some.options.now) in
    let no_seal : name ≡ codes "seal" → ⊥ = search rules in
    let no_open : name ≡ codes "open" → ⊥ = search rules in
    let no_one : name ≡ codes "one" → ⊥ = search rules in
    let no_pack : name ≡ codes "pack" → ⊥ = search rules in
    let no_check : name ≡ codes "check" → ⊥ = search rules in
    let matched = is_matched c.args.matches.now name name rows refl c.in-Some.ensures.name c.in-Some.ensures.rows in
    let files = files_view (g.F.FileReader.gives c.args.files.now) (g.F.FileReader.refuses c.args.files.now) (g.F.FileReader.wants c.args.files.now) in
    no-line files (subcommand_rows_of c.args.matches.now) c.no_command-in_default-name.result (λ _. not_command (subcommand_rows_of c.args.matches.now) name rows matched no_seal no_open no_one no_pack no_check) c.no_command-in_default-name.ensures.refused

pub returns-in_err-options-in-seal-clause-fault : goal.returns-in_err-options-in-seal-clause-fault
returns-in_err-options-in-seal-clause-fault g c =
    let named : c.in-Some.name.now ≡ codes "seal" = search rules in
    let rows = rows_of (found_of c.in-Some.options.now) in
    let found = found_of c.in-Some.options.now in
    let files = files_view (g.F.FileReader.gives c.args.files.now) (g.F.FileReader.refuses c.args.files.now) (g.F.FileReader.wants c.args.files.now) in
    let told = err_from_is_err_and c.from_residual.result c.from_residual.ensures.1 in
    rw told.1 (no-cipher files _ (subcommand_rows_of c.args.matches.now) found told.0 (inl (is_matched c.args.matches.now c.in-Some.name.now (codes "seal") rows named c.in-Some.ensures.name c.in-Some.ensures.rows))
    (subst (λ (f : Fault). IsNoCipher files found f) (sym told.2) c.in_err-options-in-seal.ensures.fault))

pub returns-in_err-options-in-open-clause-fault : goal.returns-in_err-options-in-open-clause-fault
returns-in_err-options-in-open-clause-fault g c =
    let named : c.in-Some.name.now ≡ codes "open" = search rules in
    let rows = rows_of (found_of c.in-Some.options.now) in
    let found = found_of c.in-Some.options.now in
    let files = files_view (g.F.FileReader.gives c.args.files.now) (g.F.FileReader.refuses c.args.files.now) (g.F.FileReader.wants c.args.files.now) in
    let told = err_from_is_err_and c.from_residual-in_err-options-in-open.result c.from_residual-in_err-options-in-open.ensures.1 in
    rw told.1 (no-cipher files _ (subcommand_rows_of c.args.matches.now) found told.0 (inr (is_matched c.args.matches.now c.in-Some.name.now (codes "open") rows named c.in-Some.ensures.name c.in-Some.ensures.rows))
    (subst (λ (f : Fault). IsNoCipher files found f) (sym told.2) c.in_err-options-in-open.ensures.fault))

pub returns-in_err-settings-in-one-clause-fault : goal.returns-in_err-settings-in-one-clause-fault
returns-in_err-settings-in-one-clause-fault g c =
    let named : c.in-Some.name.now ≡ codes "one" = search rules in
    let rows = rows_of (found_of c.in-Some.options.now) in
    let found = found_of c.in-Some.options.now in
    let files = files_view (g.F.FileReader.gives c.args.files.now) (g.F.FileReader.refuses c.args.files.now) (g.F.FileReader.wants c.args.files.now) in
    let told = err_from_is_err_and c.from_residual-in_err-settings-in-one.result c.from_residual-in_err-settings-in-one.ensures.1 in
    rw told.1 (no-settings files _ (subcommand_rows_of c.args.matches.now) found told.0 (is_matched c.args.matches.now c.in-Some.name.now (codes "one") rows named c.in-Some.ensures.name c.in-Some.ensures.rows)
    (subst (λ (f : Fault). AreNoSettings files found f) (sym told.2) c.in_err-settings-in-one.ensures.fault))

pub returns-in_err-job-in-pack-clause-fault : goal.returns-in_err-job-in-pack-clause-fault
returns-in_err-job-in-pack-clause-fault g c =
    let named : c.in-Some.name.now ≡ codes "pack" = search rules in
    let rows = rows_of (found_of c.in-Some.options.now) in
    let found = found_of c.in-Some.options.now in
    let files = files_view (g.F.FileReader.gives c.args.files.now) (g.F.FileReader.refuses c.args.files.now) (g.F.FileReader.wants c.args.files.now) in
    let told = err_from_is_err_and c.from_residual-in_err-job-in-pack.result c.from_residual-in_err-job-in-pack.ensures.1 in
    rw told.1 (no-ladder files _ (subcommand_rows_of c.args.matches.now) found told.0 (is_matched c.args.matches.now c.in-Some.name.now (codes "pack") rows named c.in-Some.ensures.name c.in-Some.ensures.rows)
    (subst (λ (f : Fault). IsNoLadder files found f) (sym told.2) c.in_err-job-in-pack.ensures.fault))

pub returns-in_err-options-in-check-clause-fault : goal.returns-in_err-options-in-check-clause-fault
returns-in_err-options-in-check-clause-fault g c =
    let named : c.in-Some.name.now ≡ codes "check" = search rules in
    let rows = rows_of (found_of c.in-Some.options.now) in
    let found = found_of c.in-Some.options.now in
    let files = files_view (g.F.FileReader.gives c.args.files.now) (g.F.FileReader.refuses c.args.files.now) (g.F.FileReader.wants c.args.files.now) in
    let told = err_from_is_err_and c.from_residual-in_err-options-in-check.result c.from_residual-in_err-options-in-check.ensures.1 in
    rw told.1 (no-keys files _ (subcommand_rows_of c.args.matches.now) found told.0 (is_matched c.args.matches.now c.in-Some.name.now (codes "check") rows named c.in-Some.ensures.name c.in-Some.ensures.rows)
    (subst (λ (f : Fault). AreNoKeys files found f) (sym told.2) c.in_err-options-in-check.ensures.fault))

pub returns-in_err-job-in-pack-clause-scarce : goal.returns-in_err-job-in-pack-clause-scarce
returns-in_err-job-in-pack-clause-scarce g c is =
    let named : c.in-Some.name.now ≡ codes "pack" = search rules in
    let rows = rows_of (found_of c.in-Some.options.now) in
    let found = found_of c.in-Some.options.now in
    let files = files_view (g.F.FileReader.gives c.args.files.now) (g.F.FileReader.refuses c.args.files.now) (g.F.FileReader.wants c.args.files.now) in
    let told = err_from_is_err_and c.from_residual-in_err-job-in-pack.result c.from_residual-in_err-job-in-pack.ensures.1 in
    inr (
      found,
      is_matched c.args.matches.now c.in-Some.name.now (codes "pack") rows named c.in-Some.ensures.name c.in-Some.ensures.rows,
      ladder-memory files found told.0 (subst (λ (f : Fault). IsNoLadder files found f) (sym told.2) c.in_err-job-in-pack.ensures.fault)
          (err-same told.0 NoMemory c.from_residual-in_err-job-in-pack.result told.1 is),
    )

pub returns-in_err-job-in-pack-clause-usage : goal.returns-in_err-job-in-pack-clause-usage
returns-in_err-job-in-pack-clause-usage g c error is =
    let found = found_of c.in-Some.options.now in
    let files = files_view (g.F.FileReader.gives c.args.files.now) (g.F.FileReader.refuses c.args.files.now) (g.F.FileReader.wants c.args.files.now) in
    let told = err_from_is_err_and c.from_residual-in_err-job-in-pack.result c.from_residual-in_err-job-in-pack.ensures.1 in
    absurd (ladder-no-usage files found told.0 error (subst (λ (f : Fault). IsNoLadder files found f) (sym told.2) c.in_err-job-in-pack.ensures.fault)
    (err-same told.0 (Usage error) c.from_residual-in_err-job-in-pack.result told.1 is))
