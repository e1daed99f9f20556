use Rattle.std.proofs.Common.{rules}
use Rattle.std.proofs.lemmas.Result.{err_from_is_err_and}
use Rattle.resume.specs.Wanting.{IsAsWanted}
use Rattle.channel_folder.specs.Shut.{CannotRead}
use Rattle.channel_folder.specs.Stopped.{IsSizeStop}
use Rattle.channel_folder.proofs.Stopping.{not-sized}
use Rattle.channel_folder.proofs.reading_back.go_on_from.Goals as goal

pub returns-in_err-sizes-clause-err : goal.returns-in_err-sizes-clause-err
returns-in_err-sizes-clause-err g c = λ listed there.
    let folder = c.args.folder.now in
    let Shut = CannotRead (g.F.FolderReader.refuses folder) (g.F.FilesByName.shuts folder) in
    let Gives = g.F.FolderReader.gives folder in
    let Lacks = g.F.FolderReader.lacks folder in
    let told = err_from_is_err_and c.from_residual.result c.from_residual.ensures.1 in
    let goes : IsAsWanted c.args.asked.now.wanted c.args.listing.now = search rules in
    let is : IsSizeStop Shut Gives Lacks c.args.asked.now.name.now c.args.listing.now.entries c.in_err-sizes.field-0.0.fault = search rules in
    rw (told.1, told.2) (not-sized Shut Gives Lacks c.args.asked.now c.args.listing.now c.args.frames.now c.in_err-sizes.field-0.0.fault listed there c.requires.text goes is)
