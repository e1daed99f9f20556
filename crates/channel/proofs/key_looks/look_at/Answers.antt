use Rattle.std.proofs.Common.{arith, ◌≡◌, ◌∙◌, refl, sym, ap, suc, ◌+◌, ◌-◌, ◌<◌, length}
use Rattle.std.proofs.lemmas.Bool.{false≢true}
use Rattle.std.proofs.lemmas.Result.{err_from_is_err_and}
use Rattle.limits.specs.declared.TheConstants.{MOST_KEYS}
use Rattle.media_playlist.specs.Rows.{SegmentRow}
use Rattle.channel.proofs.Looks.{all-at, last-on, marked-none, marked-on, open-none, open-on, open-on-seen}
use Rattle.channel.proofs.key_looks.look_at.Goals as goal

pub loop-i-init : goal.loop-i-init
loop-i-init g c =
    let all : length c.args.rows.now - 0 ≡ length c.args.rows.now = omega arith in
    record {
      size = refl;
      marked = marked-none c.args.rows.now MOST_KEYS (length c.args.rows.now - 0) all;
      open_from = open-none (g.F.FolderReader.gives c.args.folder.now) c.args.rendition.now c.args.rows.now (length c.args.rows.now - 0) all;
    }

pub mark-requires : goal.mark-requires
mark-requires g c =
    let row = c.row_at-row.result.now in
    let turns : row.key < MOST_KEYS = all-at (λ (r : SegmentRow). r.key < MOST_KEYS) c.args.rows.now (length c.args.rows.now - 1 - c.loop-i.i) row c.requires c.row_at-row.ensures in
    let same : c.row.inside.key ≡ row.key = ap (λ (r : SegmentRow). r.key) c.row.view_is in
    omega (arith, same, turns, c.loop-i.invariant.size)

pub loop-i-preserved-then-mark : goal.loop-i-preserved-then-mark
loop-i-preserved-then-mark g c =
    let rows = c.args.rows.now in
    let row = c.row_at-row.result.now in
    let n = length rows - c.loop-i.i in
    let p = length rows - 1 - c.loop-i.i in
    let from : n ≡ suc p = omega (arith, c.loop-i-test.true) in
    let here : length rows - (c.loop-i.i + 1) ≡ p = omega (arith, c.loop-i-test.true) in
    let same : c.row.inside.key ≡ row.key = ap (λ (r : SegmentRow). r.key) c.row.view_is in
    record {
      size = c.mark.ensures.same ∙ c.loop-i.invariant.size;
      marked = marked-on rows c.loop-i.seen c.mark.new.seen n (length rows - (c.loop-i.i + 1)) p c.row.inside.key row from here c.loop-i.invariant.marked c.row_at-row.ensures same c.mark.ensures.marks;
      open_from =
          open-on-seen (g.F.FolderReader.gives c.args.folder.now) c.args.rendition.now rows c.loop-i.seen n (length rows - (c.loop-i.i + 1)) p c.row.inside.key row from here c.loop-i.invariant.open_from
          c.loop-i.invariant.marked c.row_at-row.ensures same (c.mark.ensures.was.0 c.if-mark.true);
    }

pub loop-i-preserved : goal.loop-i-preserved
loop-i-preserved g c =
    let rows = c.args.rows.now in
    let row = c.row_at-row.result.now in
    let n = length rows - c.loop-i.i in
    let p = length rows - 1 - c.loop-i.i in
    let from : n ≡ suc p = omega (arith, c.loop-i-test.true) in
    let here : length rows - (c.loop-i.i + 1) ≡ p = omega (arith, c.loop-i-test.true) in
    let same : c.row.inside.key ≡ row.key = ap (λ (r : SegmentRow). r.key) c.row.view_is in
    record {
      size = c.mark.ensures.same ∙ c.loop-i.invariant.size;
      marked = marked-on rows c.loop-i.seen c.mark.new.seen n (length rows - (c.loop-i.i + 1)) p c.row.inside.key row from here c.loop-i.invariant.marked c.row_at-row.ensures same c.mark.ensures.marks;
      open_from =
          open-on (g.F.FolderReader.gives c.args.folder.now) c.args.rendition.now rows n (length rows - (c.loop-i.i + 1)) p row from here c.loop-i.invariant.open_from c.row_at-row.ensures
          c.in_ok-open_row.ensures.ok;
    }

pub returns-in_err-open_row-clause-err : goal.returns-in_err-open_row-clause-err
returns-in_err-open_row-clause-err g c =
    let rows = c.args.rows.now in
    let row = c.row_at-row.result.now in
    let n = length rows - c.loop-i.i in
    let p = length rows - 1 - c.loop-i.i in
    let from : n ≡ suc p = omega (arith, c.loop-i-test.true) in
    let same : c.row.inside.key ≡ row.key = ap (λ (r : SegmentRow). r.key) c.row.view_is in
    let told = err_from_is_err_and c.from_residual.result c.from_residual.ensures.1 in
    rw (told.1, told.2)
    (record {
      place = p;
      row = row;
      last = last-on rows c.loop-i.seen n p c.row.inside.key row from c.loop-i.invariant.marked c.row_at-row.ensures same (λ is. false≢true (sym c.if-mark.false ∙ c.mark.ensures.was.1 is));
      behind = λ i other past last. c.loop-i.invariant.open_from i other (omega (arith, past, from)) last;
      told = c.in_err-open_row.ensures.err;
    })
