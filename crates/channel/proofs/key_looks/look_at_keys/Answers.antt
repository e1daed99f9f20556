use Rattle.std.proofs.Common.{arith, subst, List}
use Rattle.std.proofs.lemmas.Option.{slice_get_within}
use Rattle.std.proofs.lemmas.Result.{err_from_is_err_and}
use Rattle.media_playlist.specs.Rows.{SegmentRow}
use Rattle.channel_folder.specs.Shut.{CannotRead}
use Rattle.channel.specs.Looking.{KeysOpen, IsKeyFault, rows_of}
use Rattle.channel.proofs.Looks.{keys-more}
use Rattle.channel.proofs.key_looks.look_at_keys.Goals as goal

pub loop-r-preserved : goal.loop-r-preserved
loop-r-preserved g c =
    let Gives = g.F.FolderReader.gives c.args.folder.now in
    let opens : KeysOpen Gives c.rendition_at.result.now (rows_of c.found_at-one.result.now) =
    subst (λ (l : List SegmentRow). KeysOpen Gives c.rendition_at.result.now l) c.rows_of.ensures c.in_ok-look_at.ensures.ok in
    keys-more Gives c.args.renditions.now c.args.found.now c.loop-r.r c.rendition_at.result.now c.found_at-one.result.now c.loop-r.invariant c.rendition_at.ensures c.found_at-one.ensures opens

pub look_at-requires : goal.look_at-requires
look_at-requires g c = rw c.rows_of.ensures (c.requires.turns c.loop-r.r c.found_at-one.result.now c.found_at-one.ensures)

pub returns-in_err-look_at-clause-err : goal.returns-in_err-look_at-clause-err
returns-in_err-look_at-clause-err g c =
    let Shut = CannotRead (g.F.FolderReader.refuses c.args.folder.now) (g.F.FilesByName.shuts c.args.folder.now) in
    let Gives = g.F.FolderReader.gives c.args.folder.now in
    let Lacks = g.F.FolderReader.lacks c.args.folder.now in
    let told = err_from_is_err_and c.from_residual.result c.from_residual.ensures.1 in
    rw (told.1, told.2)
    (record {
      r = c.loop-r.r;
      rendition = c.rendition_at.result.now;
      one = c.found_at-one.result.now;
      rendition_is = c.rendition_at.ensures;
      one_is = c.found_at-one.ensures;
      before = c.loop-r.invariant;
      is = subst (λ (l : List SegmentRow). IsKeyFault Shut Gives Lacks c.loop-r.r c.rendition_at.result.now l c.in_err-look_at.field-0.0.fault) c.rows_of.ensures c.in_err-look_at.ensures.err;
    })

pub returns-clause-ok : goal.returns-clause-ok
returns-clause-ok g c = λ r rendition one is_r is_one.
    c.loop-r.invariant r rendition one (omega (arith, slice_get_within c.args.renditions.now r rendition is_r, c.loop-r-test.false)) is_r is_one
