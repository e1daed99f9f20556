use Rattle.std.proofs.Common.{◌≡◌, ◌∙◌, ap, subst, ℕ, List, map, Err}
use Rattle.std.proofs.lemmas.List.{length-map}
use Rattle.std.proofs.lemmas.Result.{err_from_is_err_and}
use Rattle.channel_folder.specs.Scans.{IsScan}
use Rattle.channel.specs.Reading.{names_of}
use Rattle.channel.proofs.Unread.{names-not-read}
use Rattle.channel.proofs.Scarce.{scan-wants}
use Rattle.channel.proofs.resuming.scan_names.Goals as goal

pub returns-clause-ok : goal.returns-clause-ok
returns-clause-ok g c =
    let names : map (λ n. n.now) c.deref.result.now ≡ names_of c.args.settings.now.renditions = ap (λ l. map (λ n. n.now) l) c.deref.ensures.value ∙ c.in_ok-names.ensures.ok in
    subst (λ (l : List (List ℕ)). IsScan (g.F.FolderReader.lists c.args.folder.now) l c.in_ok-scan_files.field-0) names c.in_ok-scan_files.ensures.ok

pub returns-in_err-scan_files-clause-err : goal.returns-in_err-scan_files-clause-err
returns-in_err-scan_files-clause-err g c =
    let told = err_from_is_err_and c.from_residual-in_err-scan_files.result c.from_residual-in_err-scan_files.ensures.1 in
    rw (told.1, told.2)
    (names-not-read (g.F.FolderReader.refuses c.args.folder.now) c.in_err-scan_files.field-0.0 (λ e. c.in_err-scan_files.ensures.unread (ap Err e)))

pub returns-in_err-scan_files-clause-scarce : goal.returns-in_err-scan_files-clause-scarce
returns-in_err-scan_files-clause-scarce g c = λ is.
    let told = err_from_is_err_and c.from_residual-in_err-scan_files.result c.from_residual-in_err-scan_files.ensures.1 in
    let names : map (λ n. n.now) c.deref.result.now ≡ names_of c.args.settings.now.renditions = ap (λ l. map (λ n. n.now) l) c.deref.ensures.value ∙ c.in_ok-names.ensures.ok in
    scan-wants (g.F.FolderReader.wants c.args.folder.now) (g.F.FolderReader.lists c.args.folder.now) c.args.settings.now.renditions _ _ c.in_err-scan_files.field-0.0 names (length-map c.deref.result.now (λ n. n.now)) (λ e. c.in_err-scan_files.ensures.scarce (ap Err e)) (cc (is, told.1, told.2))
