use Rattle.std.proofs.Common.{◌≡◌, ◌∙◌, ap, subst, ℕ, List}
use Rattle.std.proofs.lemmas.Result.{IfErr-weaker, err_from_is_err_and, on_ok_weaker}
use Rattle.item_io.specs.FileNames.{segment_file_name}
use Rattle.ladder_items.specs.Ladder.{RenditionValue}
use Rattle.media_playlist.specs.Rows.{SegmentRow}
use Rattle.channel_folder.specs.Shut.{CannotRead}
use Rattle.channel.proofs.Unread.{row-not-read, shut-row}
use Rattle.channel.proofs.key_looks.open_row.Goals as goal

pub returns-in_err-bytes-clause-err : goal.returns-in_err-bytes-clause-err
returns-in_err-bytes-clause-err g c =
    let folder = c.args.folder.now in
    let told = err_from_is_err_and c.from_residual-in_err-bytes.result c.from_residual-in_err-bytes.ensures.1 in
    let file : c.deref-2.result.now ≡ segment_file_name c.args.rendition.now.name c.args.row.now.number =
    c.deref-2.ensures ∙ c.in_ok-file.ensures
    ∙ ap (λ (n : List ℕ). segment_file_name n c.row.inside.number) (c.deref.ensures ∙ ap (λ (r : RenditionValue). r.name) c.rendition.view_is)
    ∙ ap (λ (r : SegmentRow). segment_file_name c.args.rendition.now.name r.number) c.row.view_is in
    rw (told.1, told.2)
    (row-not-read (CannotRead (g.F.FolderReader.refuses folder) (g.F.FilesByName.shuts folder)) (g.F.FolderReader.wants folder) (g.F.FolderReader.gives folder) (g.F.FolderReader.lacks folder) c.args.r c.args.rendition.now c.args.row.now
    c.deref-2.result.now c.row.inside.number c.in_err-bytes.field-0.0.fault file (ap (λ (r : SegmentRow). r.number) c.row.view_is) c.in_err-bytes.ensures.err)

pub returns-clause-err : goal.returns-clause-err
returns-clause-err g c =
    let folder = c.args.folder.now in
    let Gives = g.F.FolderReader.gives folder in
    let file : c.deref-2.result.now ≡ segment_file_name c.args.rendition.now.name c.args.row.now.number =
    c.deref-2.ensures ∙ c.in_ok-file.ensures
    ∙ ap (λ (n : List ℕ). segment_file_name n c.row.inside.number) (c.deref.ensures ∙ ap (λ (r : RenditionValue). r.name) c.rendition.view_is)
    ∙ ap (λ (r : SegmentRow). segment_file_name c.args.rendition.now.name r.number) c.row.view_is in
    IfErr-weaker c.opens.result _ _
    (λ kept is. shut-row (CannotRead (g.F.FolderReader.refuses folder) (g.F.FilesByName.shuts folder)) Gives (g.F.FolderReader.lacks folder) c.args.r c.args.rendition.now c.args.row.now c.in_ok-bytes.bytes.items kept.fault
    (subst (λ (n : List ℕ). Gives n c.in_ok-bytes.bytes.items) file c.in_ok-bytes.ensures.ok) is)
    c.opens.ensures.err

pub returns-clause-ok : goal.returns-clause-ok
returns-clause-ok g c =
    let Gives = g.F.FolderReader.gives c.args.folder.now in
    let file : c.deref-2.result.now ≡ segment_file_name c.args.rendition.now.name c.args.row.now.number =
    c.deref-2.ensures ∙ c.in_ok-file.ensures
    ∙ ap (λ (n : List ℕ). segment_file_name n c.row.inside.number) (c.deref.ensures ∙ ap (λ (r : RenditionValue). r.name) c.rendition.view_is)
    ∙ ap (λ (r : SegmentRow). segment_file_name c.args.rendition.now.name r.number) c.row.view_is in
    on_ok_weaker c.opens.result (λ is. record {
      bytes = c.in_ok-bytes.bytes.items;
      gives = subst (λ (n : List ℕ). Gives n c.in_ok-bytes.bytes.items) file c.in_ok-bytes.ensures.ok;
      opens = is;
    }) c.opens.ensures.ok
