use Rattle.std.proofs.Common.{inl, refl, ◌≡◌, ◌∙◌, ◌+◌, ◌<◌, ap, arith, rules, length}
use Rattle.std.specs.Vec.{vec_len}
use Rattle.std.proofs.lemmas.Result.{err_from_is_err_and}
use Rattle.segment_job.specs.Rotation.{KeyRotation, number_of}
use Rattle.segment_job.specs.Segments.{sealed_segment}
use Rattle.ladder_items.specs.Ladder.{rendition_at, no_rendition}
use Rattle.ladder_items.specs.Shown.{Shown, known}
use Rattle.ladder_items.specs.Rows.{row_of}
use Rattle.ladder_items.specs.Items.{count, part_at, shown_of}
use Rattle.ladder_items.proofs.RowFacts.{short-ticks, next-row}
use Rattle.ladder_items.proofs.Leaving.{ends-here}
use Rattle.ladder_items.proofs.Nexts.{here, here-long, known-long, shown-next}
use Rattle.ladder_items.proofs.give.add_row.Goals as goal

pub row_of-requires-clause-short : goal.row_of-requires-clause-short
row_of-requires-clause-short c =
    let next = c.requires.next.1 in
    (short-ticks c.args.settings.now.cut.target c.args.sealed.now.plan.ticks next.plan_is.short c.requires.allowed.within.cut.target.1).0

pub row_of-requires-clause-inside : goal.row_of-requires-clause-inside
row_of-requires-clause-inside c =
    let next = c.requires.next.1 in
    let frame : 0 < c.args.settings.now.cut.frame = c.requires.allowed.within.cut.frame.0 in
    (c.frames_share_the_time.ensures.each (length c.args.sealed.now.plan.body) c.args.sealed.now.plan.ticks c.args.sealed.now.plan.frames (next.plan_is.frames frame))

pub index_mut-requires : goal.index_mut-requires
index_mut-requires c =
    let long = here-long c.args.settings.now c.args.r c.requires.next.0 c.args.playlists.now.items c.requires.next.1.goes_on in
    let whole : vec_len c.args.playlists.now ≡ length c.args.playlists.now.items = search rules in
    omega (arith, long, whole)

pub push-requires-clause-going : goal.push-requires-clause-going
push-requires-clause-going c =
    ap (λ (o : Shown). o.ended) (here c.args.settings.now c.args.r c.requires.next.0 c.args.playlists.now.items c.index_mut.result.now c.requires.next.1.goes_on c.index_mut.ensures.value)

pub push-requires-clause-few : goal.push-requires-clause-few
push-requires-clause-few c =
    let next = c.requires.next.1 in
    let was = here c.args.settings.now c.args.r c.requires.next.0 c.args.playlists.now.items c.index_mut.result.now next.goes_on c.index_mut.ensures.value in
    let first = c.requires.allowed.within.go_on c.args.r no_rendition (omega (arith, next.goes_on.within, next.goes_on.each)) in
    let long = ap (λ (o : Shown). length (known o)) was ∙ known-long c.args.settings.now c.args.r (part_at c.requires.next.0 c.args.r).plans in
    omega (arith, long, next.plan_is.below, first.few)

pub push-requires-clause-next : goal.push-requires-clause-next
push-requires-clause-next c =
    let next = c.requires.next.1 in
    let frame : 0 < c.args.settings.now.cut.frame = c.requires.allowed.within.cut.frame.0 in
    let was = here c.args.settings.now c.args.r c.requires.next.0 c.args.playlists.now.items c.index_mut.result.now next.goes_on c.index_mut.ensures.value in
    let first = c.requires.allowed.within.go_on c.args.r no_rendition (omega (arith, next.goes_on.within, next.goes_on.each)) in
    let keys = ap (λ (k : KeyRotation). k.first) c.keys_of-keys.ensures in
    let long = known-long c.args.settings.now c.args.r (part_at c.requires.next.0 c.args.r).plans in
    let number : (rendition_at c.args.settings.now c.args.r).gone.rows + length (known (shown_of c.args.settings.now (rendition_at c.args.settings.now c.args.r) (part_at c.requires.next.0 c.args.r).plans)) ≡ number_of c.keys_of-keys.result.now (count (part_at c.requires.next.0 c.args.r))
    = omega (arith, keys, first.first, long) in
    rw (was, number, c.in_ok-row.ensures.row)
    (next-row c.args.r c.args.settings.now.cut (count (part_at c.requires.next.0 c.args.r)) c.keys_of-keys.result.now c.args.sealed.now next.plan_is frame
    c.requires.allowed.within.cut.target.1 c.requires.allowed.within.cut.most.1 c.in_ok-row.ensures.size c.frames_share_the_time.ensures.sum c.frames_share_the_time.ensures.each c.seconds_of_ticks_are_those_of_microseconds.ensures)

pub returns-clause-shown : goal.returns-clause-shown
returns-clause-shown c parts next =
    let row_is = c.in_ok-row.ensures.row ∙ (ap (row_of c.keys_of-keys.result.now) c.requires.sealed ∙ ap (λ (k : KeyRotation). row_of k (sealed_segment (rendition_at c.args.settings.now c.args.r).keys c.args.sealed.now.plan)) c.keys_of-keys.ensures) in
    shown-next c.args.settings.now c.args.r parts c.args.playlists.now.items c.args.sealed.now.plan c.index_mut.result.now c.push.new.self c.in_ok-row.row next c.index_mut.ensures.value c.in_ok-push.ensures.pushed row_is

pub returns-in_err-row-clause-stopped : goal.returns-in_err-row-clause-stopped
returns-in_err-row-clause-stopped c =
    let told = err_from_is_err_and c.from_residual.result c.from_residual.ensures.1 in
    rw told.1 (inl refl)

pub returns-in_err-push-clause-stopped : goal.returns-in_err-push-clause-stopped
returns-in_err-push-clause-stopped c =
    let told = err_from_is_err_and c.from_residual-in_err-push.result c.from_residual-in_err-push.ensures.1 in
    rw told.1 (ends-here c.args.settings.now c.args.r c.requires.next.0 c.args.playlists.now.items c.index_mut.result.now c.push.new.self c.requires.next.1.goes_on c.index_mut.ensures.value c.in_err-push.ensures.err)
