use Rattle.std.proofs.Common.{◌≡◌, inl, inr, refl, subst, arith}
use Rattle.std.proofs.lemmas.Result.{err_from_is_err_and}
use Rattle.channel.specs.GoingOn.{IsPastFault}
use Rattle.channel.specs.Reading.{names_of, IsReadFault, IsScanFault}
use Rattle.channel.specs.declared.fault.ResumingFault.{ResumingFault}
use Rattle.channel.specs.declared.fault.ResumingFault.TheVariants.{NoMemory, Outlet}
use Rattle.channel.specs.Views.{view_by_name}
use Rattle.channel.proofs.Whole.{not-back, not-begun, not-rolled, not-scanned, reopened-count}
use Rattle.channel.proofs.Rolls.{rolls-all}
use Rattle.channel.proofs.resuming.resume.Goals as goal

pub returns-in_err-scan-clause-err : goal.returns-in_err-scan-clause-err
returns-in_err-scan-clause-err g c =
    let view = view_by_name g.F.FolderReader.lists g.F.FolderReader.gives g.F.FolderReader.lacks g.F.FolderReader.refuses g.F.FilesByName.shuts g.F.Folder.made in
    let told = err_from_is_err_and c.from_residual.result c.from_residual.ensures.1 in
    rw (told.1, told.2) (not-scanned view c.args.settings c.args.folder.now _ c.in_err-scan.ensures.err)

pub returns-in_err-roll_each-clause-err : goal.returns-in_err-roll_each-clause-err
returns-in_err-roll_each-clause-err g c =
    let view = view_by_name g.F.FolderReader.lists g.F.FolderReader.gives g.F.FolderReader.lacks g.F.FolderReader.refuses g.F.FilesByName.shuts g.F.Folder.made in
    let told = err_from_is_err_and c.from_residual-in_err-roll_each.result c.from_residual-in_err-roll_each.ensures.1 in
    rw (told.1, told.2) (not-rolled view c.args.settings c.args.folder.now c.roll_each.new.folder _ c.in_err-roll_each.ensures.err)

pub returns-in_err-reopened-clause-err : goal.returns-in_err-reopened-clause-err
returns-in_err-reopened-clause-err g c =
    let view = view_by_name g.F.FolderReader.lists g.F.FolderReader.gives g.F.FolderReader.lacks g.F.FolderReader.refuses g.F.FilesByName.shuts g.F.Folder.made in
    let told = err_from_is_err_and c.from_residual-in_err-reopened.result c.from_residual-in_err-reopened.ensures.1 in
    rw (told.1, told.2)
    (not-back view c.args.settings c.args.folder.now c.roll_each.new.folder c.in_ok-scan.scan _ c.in_ok-scan.ensures.ok c.in_ok-roll_each.ensures.ok c.in_err-reopened.ensures.err)

pub returns-in_err-older-clause-err : goal.returns-in_err-older-clause-err
returns-in_err-older-clause-err g c =
    let view = view_by_name g.F.FolderReader.lists g.F.FolderReader.gives g.F.FolderReader.lacks g.F.FolderReader.refuses g.F.FilesByName.shuts g.F.Folder.made in
    let told = err_from_is_err_and c.from_residual-in_err-older.result c.from_residual-in_err-older.ensures.1 in
    rw (told.1, told.2) (rolls-all view (names_of c.args.settings.renditions) c.args.folder.now c.roll_each.new.folder c.in_ok-roll_each.ensures.ok)

pub ladder_behind-requires : goal.ladder_behind-requires
ladder_behind-requires g c =
    let view = view_by_name g.F.FolderReader.lists g.F.FolderReader.gives g.F.FolderReader.lacks g.F.FolderReader.refuses g.F.FilesByName.shuts g.F.Folder.made in
    reopened-count view c.args.settings c.roll_each.new.folder c.in_ok-scan.scan c.in_ok-reopened.reopened c.in_ok-reopened.ensures.ok.all

pub returns-in_err-settings-clause-err : goal.returns-in_err-settings-clause-err
returns-in_err-settings-clause-err g c =
    let view = view_by_name g.F.FolderReader.lists g.F.FolderReader.gives g.F.FolderReader.lacks g.F.FolderReader.refuses g.F.FilesByName.shuts g.F.Folder.made in
    let told = err_from_is_err_and c.from_residual-in_err-settings.result c.from_residual-in_err-settings.ensures.1 in
    rw (told.1, told.2)
    (not-begun view c.args.settings c.args.folder.now c.roll_each.new.folder c.in_ok-scan.scan c.in_ok-reopened.reopened _ c.in_ok-scan.ensures.ok c.in_ok-roll_each.ensures.ok
    c.in_ok-reopened.ensures.ok c.in_err-settings.ensures.err)

pub returns-in_default-clause-err : goal.returns-in_default-clause-err
returns-in_default-clause-err g c =
    inr
    (record {
      scan = c.in_ok-scan.scan;
      scanned = c.in_ok-scan.ensures.ok;
      mid = c.roll_each.new.folder;
      rolls = c.in_ok-roll_each.ensures.ok;
      reopened = c.in_ok-reopened.reopened;
      back = c.in_ok-reopened.ensures.ok;
      removed = c.in_default.ensures.err;
    })

pub returns-clause-ok : goal.returns-clause-ok
returns-clause-ok g c = record {
  scan = c.in_ok-scan.scan;
  scanned = c.in_ok-scan.ensures.ok;
  mid = c.roll_each.new.folder;
  rolls = c.in_ok-roll_each.ensures.ok;
  reopened = c.in_ok-reopened.reopened;
  back = c.in_ok-reopened.ensures.ok;
  go_within = c.in_ok-settings.ensures.within;
  settings_are = c.in_ok-settings.ensures.ok;
  older_are = c.in_ok-older.ensures.ok;
  removed = c.in-Ok.ensures.ok;
}

pub returns-in_err-scan-clause-failed : goal.returns-in_err-scan-clause-failed
returns-in_err-scan-clause-failed g c = λ is.
    let told = err_from_is_err_and c.from_residual.result c.from_residual.ensures.1 in
    let outlet : c.in_err-scan.field-0.0 ≡ Outlet = cc (is, told.1, told.2) in
    absurd (subst (λ (fault : ResumingFault). IsScanFault (g.F.FolderReader.refuses c.args.folder.now) fault) outlet c.in_err-scan.ensures.err)

pub returns-in_err-roll_each-clause-failed : goal.returns-in_err-roll_each-clause-failed
returns-in_err-roll_each-clause-failed g c = λ is.
    let told = err_from_is_err_and c.from_residual-in_err-roll_each.result c.from_residual-in_err-roll_each.ensures.1 in
    c.in_err-roll_each.ensures.failed (cc (is, told.1, told.2))

pub returns-in_err-reopened-clause-failed : goal.returns-in_err-reopened-clause-failed
returns-in_err-reopened-clause-failed g c = λ is.
    let view = view_by_name g.F.FolderReader.lists g.F.FolderReader.gives g.F.FolderReader.lacks g.F.FolderReader.refuses g.F.FilesByName.shuts g.F.Folder.made in
    let told = err_from_is_err_and c.from_residual-in_err-reopened.result c.from_residual-in_err-reopened.ensures.1 in
    let outlet : c.in_err-reopened.field-0.0.fault ≡ Outlet = cc (is, told.1, told.2) in
    absurd (subst (λ (fault : ResumingFault). IsReadFault view c.roll_each.new.folder c.args.settings c.in_ok-scan.scan fault) outlet c.in_err-reopened.ensures.err)

pub returns-in_err-settings-clause-failed : goal.returns-in_err-settings-clause-failed
returns-in_err-settings-clause-failed g c = λ is.
    let told = err_from_is_err_and c.from_residual-in_err-settings.result c.from_residual-in_err-settings.ensures.1 in
    let outlet : c.in_err-settings.field-0.0.fault ≡ Outlet = cc (is, told.1, told.2) in
    absurd (subst (λ (fault : ResumingFault). IsPastFault c.in_ok-reopened.reopened.found c.in_ok-reopened.reopened.most fault) outlet c.in_err-settings.ensures.err)

pub returns-in_err-scan-clause-scarce : goal.returns-in_err-scan-clause-scarce
returns-in_err-scan-clause-scarce g c = λ is.
    let told = err_from_is_err_and c.from_residual.result c.from_residual.ensures.1 in
    c.in_err-scan.ensures.scarce (cc (is, told.1, told.2))

pub returns-in_err-roll_each-clause-scarce : goal.returns-in_err-roll_each-clause-scarce
returns-in_err-roll_each-clause-scarce g c = λ _. inr (inl (c.in_err-roll_each.ensures.none refl))

pub returns-in_err-reopened-clause-scarce : goal.returns-in_err-reopened-clause-scarce
returns-in_err-reopened-clause-scarce g c = λ _. inr (inl (c.in_err-reopened.ensures.none refl))

pub returns-in_err-older-clause-scarce : goal.returns-in_err-older-clause-scarce
returns-in_err-older-clause-scarce g c = λ _.
    let view = view_by_name g.F.FolderReader.lists g.F.FolderReader.gives g.F.FolderReader.lacks g.F.FolderReader.refuses g.F.FilesByName.shuts g.F.Folder.made in
    inr (inl (omega (
      arith,
      c.in_err-older.ensures.scarce,
      reopened-count view c.args.settings c.roll_each.new.folder c.in_ok-scan.scan c.in_ok-reopened.reopened c.in_ok-reopened.ensures.ok.all,
    )))

pub returns-in_err-settings-clause-scarce : goal.returns-in_err-settings-clause-scarce
returns-in_err-settings-clause-scarce g c = λ is.
    let told = err_from_is_err_and c.from_residual-in_err-settings.result c.from_residual-in_err-settings.ensures.1 in
    let memory : c.in_err-settings.field-0.0.fault ≡ NoMemory = cc (is, told.1, told.2) in
    absurd (subst (λ (fault : ResumingFault). IsPastFault c.in_ok-reopened.reopened.found c.in_ok-reopened.reopened.most fault) memory c.in_err-settings.ensures.err)
