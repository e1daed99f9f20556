use Rattle.std.proofs.Common.{◌∙◌, ◌<◌, inl, inr, length, slice_get, refl, ap, sym, arith}
use Rattle.std.proofs.lemmas.Bool.{false≢true}
use Rattle.std.proofs.lemmas.Option.{slice_get_read}
use Rattle.std.proofs.lemmas.Result.{err_from_is_err_and}
use Rattle.ingest.specs.Lanes.{is_good}
use Rattle.ingest.proofs.Ordered.{closed_of-grow, made_of-at}
use Rattle.ladder_items.proofs.Elsewhere.{none-there, set-elsewhere, set-there, some-there}
use Rattle.ladder_items.proofs.Stages.{turns-now}
use Rattle.ladder_items.proofs.Worlds.{put-back, parts-of, reads-fit, stage-at}
use Rattle.serial_run.proofs.Stepping.{has-read, due-step, due-cut, read-cut, due-skip, due-round}
use Rattle.serial_run.proofs.AtOnce.{due-none}
use Rattle.serial_run.proofs.Leaving.{left-first, left-turn}
use Rattle.serial_run.proofs.serial.turns.Goals as goal

pub loop-init : goal.loop-init
loop-init g c = record { failures = refl; left = left-first g.S.Source.input _ _ c.requires.going; due = c.requires.start }

pub returns-then-have_stopped-clause-ok : goal.returns-then-have_stopped-clause-ok
returns-then-have_stopped-clause-ok g c =
    (c.loop.counter, omega (arith, c.loop-test.true), c.loop.invariant.due, λ k lane at none. absurd (c.if-have_stopped.ensures.all refl k lane (ap (λ lanes. slice_get lanes k) c.deref.ensures.value ∙ at) none))

pub turn-requires-clause-reads : goal.turn-requires-clause-reads
turn-requires-clause-reads g c =
    let w = c.loop-r.invariant.due.world in
    let below : c.loop-r.r < length c.args.settings.now.renditions = omega (arith, c.loop-r-test.true, c.len-r-end.ensures, c.loop.invariant.due.world.same_lanes) in
    (reads-fit _ _ _ _ _ _ _ _ _ _ _ _ _ _ w c.loop-r.r c.index_mut.result.now c.index_mut-lane.result.now
    (slice_get_read c.loop-r.sources.items _ c.loop-r.r c.index_mut.result.now (sym w.same_now) below c.index_mut.ensures.value)
    (slice_get_read c.loop-r.renditions.lanes.items _ c.loop-r.r c.index_mut-lane.result.now (sym w.same_lanes) below c.index_mut-lane.ensures.value)
    (none-there _ (sym c.if-is_some.ensures)) (omega (arith, turns-now c.loop.counter c.loop-r.r, c.loop-test.true)) c.requires.most c.requires.room).0

pub turn-requires-clause-failures : goal.turn-requires-clause-failures
turn-requires-clause-failures g c =
    let w = c.loop-r.invariant.due.world in
    let below : c.loop-r.r < length c.args.settings.now.renditions = omega (arith, c.loop-r-test.true, c.len-r-end.ensures, c.loop.invariant.due.world.same_lanes) in
    (reads-fit _ _ _ _ _ _ _ _ _ _ _ _ _ _ w c.loop-r.r c.index_mut.result.now c.index_mut-lane.result.now
    (slice_get_read c.loop-r.sources.items _ c.loop-r.r c.index_mut.result.now (sym w.same_now) below c.index_mut.ensures.value)
    (slice_get_read c.loop-r.renditions.lanes.items _ c.loop-r.r c.index_mut-lane.result.now (sym w.same_lanes) below c.index_mut-lane.ensures.value)
    (none-there _ (sym c.if-is_some.ensures)) (omega (arith, turns-now c.loop.counter c.loop-r.r, c.loop-test.true)) c.requires.most c.requires.room).1

pub turn-requires-clause-few : goal.turn-requires-clause-few
turn-requires-clause-few g c =
    let w = c.loop-r.invariant.due.world in
    let below : c.loop-r.r < length c.args.settings.now.renditions = omega (arith, c.loop-r-test.true, c.len-r-end.ensures, c.loop.invariant.due.world.same_lanes) in
    (reads-fit _ _ _ _ _ _ _ _ _ _ _ _ _ _ w c.loop-r.r c.index_mut.result.now c.index_mut-lane.result.now
    (slice_get_read c.loop-r.sources.items _ c.loop-r.r c.index_mut.result.now (sym w.same_now) below c.index_mut.ensures.value)
    (slice_get_read c.loop-r.renditions.lanes.items _ c.loop-r.r c.index_mut-lane.result.now (sym w.same_lanes) below c.index_mut-lane.ensures.value)
    (none-there _ (sym c.if-is_some.ensures)) (omega (arith, turns-now c.loop.counter c.loop-r.r, c.loop-test.true)) c.requires.most c.requires.room).2

pub turn-requires-clause-going : goal.turn-requires-clause-going
turn-requires-clause-going g c =
    let w = c.loop-r.invariant.due.world in
    let below : c.loop-r.r < length c.args.settings.now.renditions = omega (arith, c.loop-r-test.true, c.len-r-end.ensures, c.loop.invariant.due.world.same_lanes) in
    let s = stage-at _ _ _ _ _ _ _ _ _ _ _ _ _ _ w c.loop-r.r c.index_mut.result.now c.index_mut-lane.result.now
    (slice_get_read c.loop-r.sources.items _ c.loop-r.r c.index_mut.result.now (sym w.same_now) below c.index_mut.ensures.value)
    (slice_get_read c.loop-r.renditions.lanes.items _ c.loop-r.r c.index_mut-lane.result.now (sym w.same_lanes) below c.index_mut-lane.ensures.value) in
    (s.2.is_at.goes_on (none-there _ (sym c.if-is_some.ensures))).going

pub returns-in_err-turn-clause-err : goal.returns-in_err-turn-clause-err
returns-in_err-turn-clause-err g c =
    let told = err_from_is_err_and c.from_residual.result c.from_residual.ensures.1 in
    let w = c.loop-r.invariant.due.world in
    let below : c.loop-r.r < length c.args.settings.now.renditions = omega (arith, c.loop-r-test.true, c.len-r-end.ensures, c.loop.invariant.due.world.same_lanes) in
    rw told.1 (read-cut _ _ _ _ _ _ c.loop.counter c.loop-r.r _ _ _ _ _ _ c.index_mut.result.now c.turn.new.source c.index_mut-lane.result.now _
    (slice_get_read c.loop-r.sources.items _ c.loop-r.r c.index_mut.result.now (sym w.same_now) below c.index_mut.ensures.value)
    (slice_get_read c.loop-r.renditions.lanes.items _ c.loop-r.r c.index_mut-lane.result.now (sym w.same_lanes) below c.index_mut-lane.ensures.value)
    (none-there _ (sym c.if-is_some.ensures)) c.in_err-turn.ensures.err.read c.in_err-turn.ensures.err.wants c.in_err-turn.ensures.no_read_failed
    (closed_of-grow c.loop-r.r c.args.settings.now.cut) c.loop-test.true c.requires.allowed c.loop-r.invariant.due)

pub give_due-requires-clause-next : goal.give_due-requires-clause-next
give_due-requires-clause-next g c =
    let w = c.loop-r.invariant.due.world in
    let below : c.loop-r.r < length c.args.settings.now.renditions = omega (arith, c.loop-r-test.true, c.len-r-end.ensures, c.loop.invariant.due.world.same_lanes) in
    let h = has-read _ _ _ _ _ _ c.loop.counter c.loop-r.r _ _ _ _ _ _ c.index_mut.result.now c.turn.new.source c.index_mut-lane.result.now c.turn.new.self
    (slice_get_read c.loop-r.sources.items _ c.loop-r.r c.index_mut.result.now (sym w.same_now) below c.index_mut.ensures.value)
    (slice_get_read c.loop-r.renditions.lanes.items _ c.loop-r.r c.index_mut-lane.result.now (sym w.same_lanes) below c.index_mut-lane.ensures.value)
    (none-there _ (sym c.if-is_some.ensures)) c.in_ok-turn.ensures.ok (λ stop r. made_of-at stop r c.args.settings.now.cut) c.loop-r.invariant.due in
    (parts-of c.args.settings.now h.world.events, h.next)

pub returns-in_err-give_due-clause-err : goal.returns-in_err-give_due-clause-err
returns-in_err-give_due-clause-err g c =
    let told = err_from_is_err_and c.from_residual-in_err-give_due.result c.from_residual-in_err-give_due.ensures.1 in
    let w = c.loop-r.invariant.due.world in
    let below : c.loop-r.r < length c.args.settings.now.renditions = omega (arith, c.loop-r-test.true, c.len-r-end.ensures, c.loop.invariant.due.world.same_lanes) in
    let h = has-read _ _ _ _ _ _ c.loop.counter c.loop-r.r _ _ _ _ _ _ c.index_mut.result.now c.turn.new.source c.index_mut-lane.result.now c.turn.new.self
    (slice_get_read c.loop-r.sources.items _ c.loop-r.r c.index_mut.result.now (sym w.same_now) below c.index_mut.ensures.value)
    (slice_get_read c.loop-r.renditions.lanes.items _ c.loop-r.r c.index_mut-lane.result.now (sym w.same_lanes) below c.index_mut-lane.ensures.value)
    (none-there _ (sym c.if-is_some.ensures)) c.in_ok-turn.ensures.ok (λ stop r. made_of-at stop r c.args.settings.now.cut) c.loop-r.invariant.due in
    rw told.1 (due-cut _ _ _ _ _ _ c.loop.counter c.loop-r.r _ _ _ _ _ _ _ c.index_mut.result.now c.turn.new.source c.index_mut-lane.result.now c.turn.new.self
    (slice_get_read c.loop-r.sources.items _ c.loop-r.r c.index_mut.result.now (sym w.same_now) below c.index_mut.ensures.value)
    (slice_get_read c.loop-r.renditions.lanes.items _ c.loop-r.r c.index_mut-lane.result.now (sym w.same_lanes) below c.index_mut-lane.ensures.value)
    (none-there _ (sym c.if-is_some.ensures)) c.in_ok-turn.ensures.ok c.in_ok-turn.ensures.unread (λ filled good. false≢true (c.in_err-give_due.ensures.none filled good))
    c.loop-r.invariant.due h
    c.in_err-give_due.ensures.err c.loop-test.true c.requires.allowed)

pub loop-r-preserved-then-is_some : goal.loop-r-preserved-then-is_some
loop-r-preserved-then-is_some g c =
    let w = c.loop-r.invariant.due.world in
    let below : c.loop-r.r < length c.args.settings.now.renditions = omega (arith, c.loop-r-test.true, c.len-r-end.ensures, c.loop.invariant.due.world.same_lanes) in
    record {
      failures = c.loop-r.invariant.failures;
      left = rw (put-back c.loop-r.renditions.lanes.items c.loop-r.r c.index_mut-lane.result.now c.index_mut-lane.ensures.value) c.loop-r.invariant.left;
      due = rw (put-back c.loop-r.renditions.lanes.items c.loop-r.r c.index_mut-lane.result.now c.index_mut-lane.ensures.value) (due-skip _ _ _ _ _ _ c.loop.counter c.loop-r.r _ _ _ _ _ _ c.index_mut-lane.result.now
          (slice_get_read c.loop-r.renditions.lanes.items _ c.loop-r.r c.index_mut-lane.result.now (sym w.same_lanes) below c.index_mut-lane.ensures.value) (some-there _ (sym c.if-is_some.ensures)) c.loop-r.invariant.due);
    }

pub loop-r-preserved : goal.loop-r-preserved
loop-r-preserved g c =
    let w = c.loop-r.invariant.due.world in
    let below : c.loop-r.r < length c.args.settings.now.renditions = omega (arith, c.loop-r-test.true, c.len-r-end.ensures, c.loop.invariant.due.world.same_lanes) in
    let there = slice_get_read c.loop-r.renditions.lanes.items _ c.loop-r.r c.index_mut-lane.result.now (sym w.same_lanes) below c.index_mut-lane.ensures.value in
    let h = has-read _ _ _ _ _ _ c.loop.counter c.loop-r.r _ _ _ _ _ _ c.index_mut.result.now c.turn.new.source c.index_mut-lane.result.now c.turn.new.self
    (slice_get_read c.loop-r.sources.items _ c.loop-r.r c.index_mut.result.now (sym w.same_now) below c.index_mut.ensures.value)
    there
    (none-there _ (sym c.if-is_some.ensures)) c.in_ok-turn.ensures.ok (λ stop r. made_of-at stop r c.args.settings.now.cut) c.loop-r.invariant.due in
    record {
      failures = c.in_ok-give_due.ensures.failures ∙ c.loop-r.invariant.failures;
      left = left-turn g.S.Source.input _ _ _ c.loop-r.r c.turn.new.source c.turn.new.self c.give_due.new.lane c.loop-r.invariant.left c.in_ok-turn.ensures.left c.in_ok-turn.ensures.unleft c.in_ok-give_due.ensures.stop;
      due = due-step _ _ _ _ _ _ c.loop.counter c.loop-r.r _ _ _ _ _ _ _ _ c.turn.new.source c.index_mut-lane.result.now c.turn.new.self c.give_due.new.lane
          there c.loop-r.invariant.due _ h c.in_ok-give_due.ensures.ok c.in_ok-give_due.ensures.stop c.in_ok-give_due.ensures.intake;
    }

pub loop-preserved : goal.loop-preserved
loop-preserved g c =
    let w = c.loop-r.invariant.due.world in record {
      failures = c.loop-r.invariant.failures;
      left = c.loop-r.invariant.left;
      due = due-round _ _ _ _ _ _ c.loop.counter c.loop-r.r _ _ _ _ _ _ (omega (arith, c.loop-r-test.false, c.len-r-end.ensures, c.loop.invariant.due.world.same_lanes)) c.loop-r.invariant.due;
    }

pub returns-in_err-turn-clause-order : goal.returns-in_err-turn-clause-order
returns-in_err-turn-clause-order g c =
    let told = err_from_is_err_and c.from_residual.result c.from_residual.ensures.1 in
    let w = c.loop-r.invariant.due.world in
    let below : c.loop-r.r < length c.args.settings.now.renditions = omega (arith, c.loop-r-test.true, c.len-r-end.ensures, c.loop.invariant.due.world.same_lanes) in
    rw told.1 (record {
      rounds = c.loop.counter;
      in_turn = c.loop-r.r;
      few = c.loop-test.true;
      earlier = c.loop-r.sources.items;
      put = c.loop-r.outlet;
      lanes = c.loop-r.renditions.lanes.items;
      shown = c.loop-r.renditions.playlists.items;
      due = c.loop-r.invariant.due;
      left = c.loop-r.invariant.left;
      others = λ k other. set-elsewhere c.loop-r.sources.items c.loop-r.r k c.turn.new.source other;
      old = c.index_mut.result.now;
      old_there = slice_get_read c.loop-r.sources.items _ c.loop-r.r c.index_mut.result.now (sym w.same_now) below c.index_mut.ensures.value;
      new = c.turn.new.source;
      new_there = set-there c.loop-r.sources.items c.loop-r.r c.turn.new.source (omega (arith, below, w.same_now));
      lane = c.index_mut-lane.result.now;
      lane_there = slice_get_read c.loop-r.renditions.lanes.items _ c.loop-r.r c.index_mut-lane.result.now (sym w.same_lanes) below c.index_mut-lane.ensures.value;
      why = inl (c.in_err-turn.ensures.err, c.in_err-turn.ensures.unleft_at_err);
    })

pub returns-in_err-give_due-clause-order : goal.returns-in_err-give_due-clause-order
returns-in_err-give_due-clause-order g c =
    let told = err_from_is_err_and c.from_residual-in_err-give_due.result c.from_residual-in_err-give_due.ensures.1 in
    let w = c.loop-r.invariant.due.world in
    let below : c.loop-r.r < length c.args.settings.now.renditions = omega (arith, c.loop-r-test.true, c.len-r-end.ensures, c.loop.invariant.due.world.same_lanes) in
    rw told.1 (record {
      rounds = c.loop.counter;
      in_turn = c.loop-r.r;
      few = c.loop-test.true;
      earlier = c.loop-r.sources.items;
      put = c.loop-r.outlet;
      lanes = c.loop-r.renditions.lanes.items;
      shown = c.loop-r.renditions.playlists.items;
      due = c.loop-r.invariant.due;
      left = c.loop-r.invariant.left;
      others = λ k other. set-elsewhere c.loop-r.sources.items c.loop-r.r k c.turn.new.source other;
      old = c.index_mut.result.now;
      old_there = slice_get_read c.loop-r.sources.items _ c.loop-r.r c.index_mut.result.now (sym w.same_now) below c.index_mut.ensures.value;
      new = c.turn.new.source;
      new_there = set-there c.loop-r.sources.items c.loop-r.r c.turn.new.source (omega (arith, below, w.same_now));
      lane = c.index_mut-lane.result.now;
      lane_there = slice_get_read c.loop-r.renditions.lanes.items _ c.loop-r.r c.index_mut-lane.result.now (sym w.same_lanes) below c.index_mut-lane.ensures.value;
      why = inr (
        c.turn.new.self,
        c.in_ok-turn.ensures.ok,
        (c.in_ok-turn.ensures.left, λ none. inr (c.in_ok-turn.ensures.unleft none)),
        λ none.
            let parts = due-none c.loop-r.r c.turn.new.self.intake.filled (is_good c.turn.new.self.stop) none in
            false≢true (c.in_err-give_due.ensures.none parts.0 parts.1),
      );
    })
