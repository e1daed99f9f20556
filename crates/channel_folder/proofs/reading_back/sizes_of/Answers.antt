use Rattle.std.proofs.Common.{rules, ◌∙◌, ap, ◌≡◌, ◌+◌, ◌∷◌, [], ◌++◌, sym, subst, List, ℕ, take, get_or}
use Rattle.std.proofs.lemmas.List.{take_more}
use Rattle.std.proofs.lemmas.Result.{err_from_is_err_and}
use Rattle.playlist_text.specs.MediaLines.{Entry}
use Rattle.channel_folder.specs.Reopened.{AreSizes, HasSize}
use Rattle.channel_folder.specs.Shut.{CannotRead}
use Rattle.channel_folder.proofs.Sizes.{sizes-more, unsized-at}
use Rattle.channel_folder.proofs.reading_back.sizes_of.Goals as goal

pub loop-entry-preserved : goal.loop-entry-preserved
loop-entry-preserved g c =
    let es = c.args.entries.now in
    let i = c.loop-entry.entry-index in
    let has : HasSize (g.F.FolderReader.gives c.args.folder.now) c.args.name.now c.entry-item.result c.in_ok-size.size = search rules in
    let pushed : c.push.new.self.items ≡ c.loop-entry.sizes.items ++ c.in_ok-size.size ∷ [] = search rules in
    let item : get_or es i c.entry-item.result ≡ c.entry-item.result = search rules in
    let all : take (i + 1) es ≡ take i es ++ c.entry-item.result ∷ [] = take_more es i c.entry-item.result c.loop-entry-test.true ∙ ap (λ (e : Entry). take i es ++ e ∷ []) item in
    subst (λ (l : List Entry). AreSizes (g.F.FolderReader.gives c.args.folder.now) c.args.name.now l c.push.new.self.items) (sym all)
    (subst (λ (l : List ℕ). AreSizes (g.F.FolderReader.gives c.args.folder.now) c.args.name.now (take i es ++ c.entry-item.result ∷ []) l) (sym pushed)
    (sizes-more (g.F.FolderReader.gives c.args.folder.now) c.args.name.now (take i es) c.loop-entry.sizes.items c.entry-item.result c.in_ok-size.size c.loop-entry.invariant has))

pub returns-in_err-size-clause-err : goal.returns-in_err-size-clause-err
returns-in_err-size-clause-err g c =
    let folder = c.args.folder.now in
    let told = err_from_is_err_and c.from_residual-in_err-size.result c.from_residual-in_err-size.ensures.1 in
    rw (told.1, told.2)
    (unsized-at (CannotRead (g.F.FolderReader.refuses folder) (g.F.FilesByName.shuts folder)) (g.F.FolderReader.wants folder) (g.F.FolderReader.gives folder) (g.F.FolderReader.lacks folder) c.args.name.now c.args.entries.now
    c.loop-entry.sizes.items c.loop-entry.entry-index c.entry-item.result c.entry.inside.number c.as_str.result.now c.in_err-size.field-0.0.fault c.loop-entry-test.true c.entry-item.is
    c.loop-entry.invariant (search rules) (search rules) c.in_err-size.ensures.err)
