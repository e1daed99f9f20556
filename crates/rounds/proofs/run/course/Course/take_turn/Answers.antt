use Rattle.std.proofs.Common.{◌≡◌, ◌∙◌, ◌+◌, ◌<◌, None, refl, ap, sym, arith, length}
use Rattle.std.specs.Prelude.{sum}
use Rattle.std.specs.List.{slice_index_or}
use Rattle.std.proofs.lemmas.Option.{slice_get_read, same_Some}
use Rattle.std.proofs.lemmas.Result.{err_from_is_err_and}
use Rattle.ingest.proofs.Ordered.{closed_of-grow}
use Rattle.ingest.specs.declared.lane.Lane.{Lane}
use Rattle.ladder_items.proofs.Elsewhere.{set-here, set-there}
use Rattle.ladder_items.proofs.Worlds.{stage-at, reads-fit}
use Rattle.rounds.proofs.Soon.{had-one}
use Rattle.rounds.proofs.Turning.{on-read, on-unread, counts-sum, counts-elsewhere, others-turned, turned-counted}
use Rattle.rounds.specs.Courses.{turns_at}
use Rattle.rounds.specs.declared.run.course.Course.{Course}
use Rattle.rounds.proofs.run.course.Course.take_turn.Goals as goal

pub turn-requires-clause-reads : goal.turn-requires-clause-reads
turn-requires-clause-reads g c =
    let o = c.requires.on.4 in
    let w = o.world in
    let below : c.args.r < length c.requires.on.0.renditions = omega (arith, c.requires.within, w.same_lanes) in
    let there = slice_get_read c.args.self.now.sources.items _ c.args.r c.index_mut-2.result.now (sym w.same_now) below c.index_mut-2.ensures.value in
    let at = slice_get_read c.args.self.now.lanes.items _ c.args.r c.index_mut.result.now refl c.requires.within c.index_mut.ensures.value in
    let none : c.index_mut.result.now.stop ≡ None = c.requires.going c.index_mut.result.now at in
    (reads-fit _ _ _ _ _ _ _ _ _ _ _ _ _ _ w c.args.r c.index_mut-2.result.now c.index_mut.result.now there at none c.requires.below o.most o.room).0

pub turn-requires-clause-failures : goal.turn-requires-clause-failures
turn-requires-clause-failures g c =
    let o = c.requires.on.4 in
    let w = o.world in
    let below : c.args.r < length c.requires.on.0.renditions = omega (arith, c.requires.within, w.same_lanes) in
    let there = slice_get_read c.args.self.now.sources.items _ c.args.r c.index_mut-2.result.now (sym w.same_now) below c.index_mut-2.ensures.value in
    let at = slice_get_read c.args.self.now.lanes.items _ c.args.r c.index_mut.result.now refl c.requires.within c.index_mut.ensures.value in
    let none : c.index_mut.result.now.stop ≡ None = c.requires.going c.index_mut.result.now at in
    (reads-fit _ _ _ _ _ _ _ _ _ _ _ _ _ _ w c.args.r c.index_mut-2.result.now c.index_mut.result.now there at none c.requires.below o.most o.room).1

pub turn-requires-clause-few : goal.turn-requires-clause-few
turn-requires-clause-few g c =
    let o = c.requires.on.4 in
    let w = o.world in
    let below : c.args.r < length c.requires.on.0.renditions = omega (arith, c.requires.within, w.same_lanes) in
    let there = slice_get_read c.args.self.now.sources.items _ c.args.r c.index_mut-2.result.now (sym w.same_now) below c.index_mut-2.ensures.value in
    let at = slice_get_read c.args.self.now.lanes.items _ c.args.r c.index_mut.result.now refl c.requires.within c.index_mut.ensures.value in
    let none : c.index_mut.result.now.stop ≡ None = c.requires.going c.index_mut.result.now at in
    (reads-fit _ _ _ _ _ _ _ _ _ _ _ _ _ _ w c.args.r c.index_mut-2.result.now c.index_mut.result.now there at none c.requires.below o.most o.room).2

pub turn-requires-clause-going : goal.turn-requires-clause-going
turn-requires-clause-going g c =
    let o = c.requires.on.4 in
    let w = o.world in
    let below : c.args.r < length c.requires.on.0.renditions = omega (arith, c.requires.within, w.same_lanes) in
    let there = slice_get_read c.args.self.now.sources.items _ c.args.r c.index_mut-2.result.now (sym w.same_now) below c.index_mut-2.ensures.value in
    let at = slice_get_read c.args.self.now.lanes.items _ c.args.r c.index_mut.result.now refl c.requires.within c.index_mut.ensures.value in
    let none : c.index_mut.result.now.stop ≡ None = c.requires.going c.index_mut.result.now at in
    let s = stage-at _ _ _ _ _ _ _ _ _ _ _ _ _ _ w c.args.r c.index_mut-2.result.now c.index_mut.result.now there at in
    (s.2.is_at.goes_on none).going

pub returns-in_err-turn-clause-err : goal.returns-in_err-turn-clause-err
returns-in_err-turn-clause-err g c =
    let told = err_from_is_err_and c.from_residual.result c.from_residual.ensures.1 in
    let at = slice_get_read c.args.self.now.lanes.items _ c.args.r c.index_mut.result.now refl c.requires.within c.index_mut.ensures.value in
    let none : c.index_mut.result.now.stop ≡ None = c.requires.going c.index_mut.result.now at in
    rw told.1 (λ ladder start shows waiting on.
    let below : c.args.r < length ladder.renditions = omega (arith, c.requires.within, on.world.same_lanes) in
    on-unread _ _ _ _ _ start c.args.r _ _ shows waiting c.index_mut-2.result.now c.turn.new.source c.index_mut.result.now _
    (slice_get_read c.args.self.now.sources.items _ c.args.r c.index_mut-2.result.now (sym on.world.same_now) below c.index_mut-2.ensures.value)
    at none c.in_err-turn.ensures.err.read c.in_err-turn.ensures.no_read_failed
    (λ s more. closed_of-grow c.args.r ladder.cut s more) refl refl c.requires.below on)

pub returns-clause-ok : goal.returns-clause-ok
returns-clause-ok g c ladder start shows waiting on =
    let at = slice_get_read c.args.self.now.lanes.items _ c.args.r c.index_mut.result.now refl c.requires.within c.index_mut.ensures.value in
    let none : c.index_mut.result.now.stop ≡ None = c.requires.going c.index_mut.result.now at in
    let below : c.args.r < length ladder.renditions = omega (arith, c.requires.within, on.world.same_lanes) in
    let k = turned-counted g.S.Source.input c.args.self.now.reads (turns_at c.args.self.now c.args.r + 1) c.args.r c.args.self.now.sources.items c.count_turn.new.self.sources.items
    c.index_mut-2.result.now c.turn.new.source c.index_mut.result.now c.turn.new.self c.in_ok-turn.ensures.ok c.in_ok-turn.ensures.left c.in_ok-turn.ensures.unleft
    c.count_turn.ensures.last c.count_turn.ensures.sources in
    on-read _ _ _ _ _ start c.args.r _ _ shows waiting c.index_mut-2.result.now k.0 c.index_mut.result.now c.turn.new.self
    (slice_get_read c.args.self.now.sources.items _ c.args.r c.index_mut-2.result.now (sym on.world.same_now) below c.index_mut-2.ensures.value)
    at none k.2 k.1 (ap (λ (d : Course _ _). d.lanes.items) c.count_turn.ensures.same) c.count_turn.ensures.turns
    (c.count_turn.ensures.same ∙ (λ j. record c.args.self.now {
      sources = c.count_turn.new.self.sources;
      lanes = ap (λ (d : Course _ _). d.lanes) (sym c.count_turn.ensures.same) j;
      turns = c.count_turn.new.self.turns;
    })) c.requires.below k.3 on

pub returns-clause-turns : goal.returns-clause-turns
returns-clause-turns g c =
    let some = c.requires.on in
    let within : c.args.r < length c.args.self.now.turns.items = omega (arith, c.requires.within, some.4.counted, some.4.world.same_lanes) in
    ap (λ l. sum l) c.count_turn.ensures.turns ∙ counts-sum c.args.self.now.turns.items c.args.r within

pub count_turn-requires-clause-most : goal.count_turn-requires-clause-most
count_turn-requires-clause-most g c = c.requires.on.4.most

pub returns-in_err-turn-clause-others : goal.returns-in_err-turn-clause-others
returns-in_err-turn-clause-others g c = others-turned c.args.r _ _ c.turn.new.source c.turn.new.self refl refl (λ k other. refl)

pub returns-clause-others : goal.returns-clause-others
returns-clause-others g c =
    let k = turned-counted g.S.Source.input c.args.self.now.reads (turns_at c.args.self.now c.args.r + 1) c.args.r c.args.self.now.sources.items c.count_turn.new.self.sources.items
    c.index_mut-2.result.now c.turn.new.source c.index_mut.result.now c.turn.new.self c.in_ok-turn.ensures.ok c.in_ok-turn.ensures.left c.in_ok-turn.ensures.unleft
    c.count_turn.ensures.last c.count_turn.ensures.sources in
    others-turned c.args.r _ _ k.0 c.turn.new.self k.1 (ap (λ (d : Course _ _). d.lanes.items) c.count_turn.ensures.same)
    (λ k other. ap (λ l. slice_index_or l k 0) c.count_turn.ensures.turns ∙ counts-elsewhere c.args.self.now.turns.items c.args.r k _ other)

pub returns-clause-had : goal.returns-clause-had
returns-clause-had g c =
    let on = c.requires.on.4 in
    let at = slice_get_read c.args.self.now.lanes.items _ c.args.r c.index_mut.result.now refl c.requires.within c.index_mut.ensures.value in
    let below : c.args.r < length c.requires.on.0.renditions = omega (arith, c.requires.within, on.world.same_lanes) in
    let there = slice_get_read c.args.self.now.sources.items _ c.args.r c.index_mut-2.result.now (sym on.world.same_now) below c.index_mut-2.ensures.value in
    let k = turned-counted g.S.Source.input c.args.self.now.reads (turns_at c.args.self.now c.args.r + 1) c.args.r c.args.self.now.sources.items c.count_turn.new.self.sources.items
    c.index_mut-2.result.now c.turn.new.source c.index_mut.result.now c.turn.new.self c.in_ok-turn.ensures.ok c.in_ok-turn.ensures.left c.in_ok-turn.ensures.unleft
    c.count_turn.ensures.last c.count_turn.ensures.sources in
    had-one _ c.args.r _ _ c.index_mut-2.result.now k.0 c.index_mut.result.now c.turn.new.self there at k.2
    k.1 (ap (λ (d : Course _ _). d.lanes.items) c.count_turn.ensures.same) c.count_turn.ensures.turns (omega (arith, below, on.counted))

pub returns-in_err-turn-clause-unfailed : goal.returns-in_err-turn-clause-unfailed
returns-in_err-turn-clause-unfailed g c =
    let told = err_from_is_err_and c.from_residual.result c.from_residual.ensures.1 in
    let on = c.requires.on.4 in
    let below : c.args.r < length c.requires.on.0.renditions = omega (arith, c.requires.within, on.world.same_lanes) in
    let there = slice_get_read c.args.self.now.sources.items _ c.args.r c.index_mut-2.result.now (sym on.world.same_now) below c.index_mut-2.ensures.value in
    rw told.1 (λ source now was is.
    let old = same_Some _ _ (sym there ∙ was) in
    let new = set-here c.args.self.now.sources.items c.args.r c.turn.new.source now is in
    ap g.S.Source.input.failures (sym new) ∙ (c.in_err-turn.ensures.no_read_failed ∙ ap g.S.Source.input.failures old))

pub returns-in_err-turn-clause-unstopped : goal.returns-in_err-turn-clause-unstopped
returns-in_err-turn-clause-unstopped g c =
    let told = err_from_is_err_and c.from_residual.result c.from_residual.ensures.1 in
    let at = slice_get_read c.args.self.now.lanes.items _ c.args.r c.index_mut.result.now refl c.requires.within c.index_mut.ensures.value in
    rw told.1 (λ lane now was is.
    let old = same_Some _ _ (sym at ∙ was) in
    let new = set-here c.args.self.now.lanes.items c.args.r c.turn.new.self now is in
    ap (λ (l : Lane). l.stop) (sym new) ∙ (c.in_err-turn.ensures.stop ∙ ap (λ (l : Lane). l.stop) old))

pub returns-in_err-turn-clause-broken : goal.returns-in_err-turn-clause-broken
returns-in_err-turn-clause-broken g c =
    let told = err_from_is_err_and c.from_residual.result c.from_residual.ensures.1 in
    let at = slice_get_read c.args.self.now.lanes.items _ c.args.r c.index_mut.result.now refl c.requires.within c.index_mut.ensures.value in
    rw told.1 (record {
      rendition = c.args.r;
      lane = c.turn.new.self;
      there = set-there c.args.self.now.lanes.items c.args.r c.turn.new.self c.requires.within;
      going = c.in_err-turn.ensures.stop ∙ c.requires.going c.index_mut.result.now at;
      ended = c.in_err-turn.ensures.broken;
    })

pub returns-in_err-turn-clause-ok : goal.returns-in_err-turn-clause-ok
returns-in_err-turn-clause-ok g c =
    let told = err_from_is_err_and c.from_residual.result c.from_residual.ensures.1 in
    rw told.1 tt

pub returns-in_err-turn-clause-turns : goal.returns-in_err-turn-clause-turns
returns-in_err-turn-clause-turns g c =
    let told = err_from_is_err_and c.from_residual.result c.from_residual.ensures.1 in
    rw told.1 tt

pub returns-in_err-turn-clause-had : goal.returns-in_err-turn-clause-had
returns-in_err-turn-clause-had g c =
    let told = err_from_is_err_and c.from_residual.result c.from_residual.ensures.1 in
    rw told.1 tt
