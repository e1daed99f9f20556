use Rattle.std.proofs.Common.{length, refl, ap, arith}
use Rattle.std.proofs.lemmas.Option.{slice_get_read}
use Rattle.ladder_items.proofs.RowsBefore.{next-of}
use Rattle.ladder_items.proofs.earlier.push_rows.Goals as goal

pub push_row-requires-clause-next : goal.push_row-requires-clause-next
push_row-requires-clause-next c =
    let rows = c.args.rows.now in
    let row = c.row-item.result in
    next-of rows c.loop-row.row-index row c.in_ok-copy.copy c.args.playlists.now c.loop-row.playlists c.requires.none c.loop-row.invariant c.loop-row.auto.row-index-end c.requires.follow
    (slice_get_read rows (length rows) c.loop-row.row-index row refl c.loop-row-test.true c.row-item.is) c.in_ok-copy.ensures.ok

pub returns-in_err-copy-clause-none : goal.returns-in_err-copy-clause-none
returns-in_err-copy-clause-none c = λ none. absurd (omega (arith, ap length none, c.loop-row-test.true, c.loop-row.auto.row-index-end))
