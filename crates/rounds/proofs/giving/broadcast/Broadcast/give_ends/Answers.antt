use Rattle.std.proofs.Common.{◌≡◌, ◌∙◌, ◌<◌, inl, inr, Some, false, ap, sym, arith, rules, length}
use Rattle.std.specs.List.{slice_get, slice_index_or}
use Rattle.std.proofs.lemmas.Bool.{cases_eq}
use Rattle.std.proofs.lemmas.Result.{err_from_is_err_and}
use Rattle.ingest.specs.Lanes.{is_good}
use Rattle.rounds.proofs.Running.{reads-then}
use Rattle.rounds.proofs.giving.broadcast.Broadcast.give_ends.Goals as goal

pub give_end_of-requires-clause-on : goal.give_end_of-requires-clause-on
give_end_of-requires-clause-on g c = let some = c.requires.on in (some.0, c.loop-r.invariant.ok some.0 some.1)

pub returns-in_err-give_end_of-clause-err : goal.returns-in_err-give_end_of-clause-err
returns-in_err-give_end_of-clause-err g c =
    let told = err_from_is_err_and c.from_residual.result c.from_residual.ensures.1 in
    rw (told.1, told.2) (λ start on. c.in_err-give_end_of.ensures.err start (c.loop-r.invariant.ok start on))

pub loop-r-preserved : goal.loop-r-preserved
loop-r-preserved g c = record {
  ok = λ start on. c.in_ok-give_end_of.ensures.ok start (c.loop-r.invariant.ok start on);
  none_read = reads-then _ _ _ c.loop-r.invariant.none_read c.in_ok-give_end_of.ensures.none_read;
  playlists = c.in_ok-give_end_of.ensures.playlists ∙ c.loop-r.invariant.playlists;
  shown = c.in_ok-give_end_of.ensures.shown ∙ c.loop-r.invariant.shown;
  ended = λ k lane below at filled.
      elim (cases_eq k c.loop-r.r) as (λ _. slice_index_or c.give_end_of.new.self.course.ended.items k false ≡ is_good lane.stop) [
        | inl q ↦
            let here : slice_get c.loop-r.self.course.lanes.items c.loop-r.r ≡ Some lane =
            ap (λ l. slice_get l.items c.loop-r.r) c.loop-r.invariant.none_read.lanes ∙ (ap (slice_get c.args.self.now.course.lanes.items) (sym q) ∙ at) in
            ap (λ j. slice_index_or c.give_end_of.new.self.course.ended.items j false) q ∙ c.in_ok-give_end_of.ensures.ended lane here filled
        | inr q ↦ c.in_ok-give_end_of.ensures.others k q ∙ c.loop-r.invariant.ended k lane (omega (arith, below, q)) at filled
      ];
  left = λ k above. c.in_ok-give_end_of.ensures.others k (λ q. absurd (omega (arith, above, q))) ∙ c.loop-r.invariant.left k (omega (arith, above));
}

pub returns-in_err-give_end_of-clause-unheld : goal.returns-in_err-give_end_of-clause-unheld
returns-in_err-give_end_of-clause-unheld g c =
    let told = err_from_is_err_and c.from_residual.result c.from_residual.ensures.1 in
    rw (told.1, told.2) c.in_err-give_end_of.ensures.unheld

pub returns-in_err-give_end_of-clause-none : goal.returns-in_err-give_end_of-clause-none
returns-in_err-give_end_of-clause-none g c =
    let told = err_from_is_err_and c.from_residual.result c.from_residual.ensures.1 in
    let r = c.loop-r.r in
    let below : r < length c.args.settings.now.renditions = search rules in
    rw told.1 (
      r,
      below,
      λ lane at.
          let due = c.in_err-give_end_of.ensures.none lane (ap (λ l. slice_get l.items r) c.loop-r.invariant.none_read.lanes ∙ at) in
          (due.0, due.1, sym (c.loop-r.invariant.left r (omega arith)) ∙ due.2),
    )

pub returns-in_err-give_end_of-clause-left : goal.returns-in_err-give_end_of-clause-left
returns-in_err-give_end_of-clause-left g c =
    let told = err_from_is_err_and c.from_residual.result c.from_residual.ensures.1 in
    let r = c.loop-r.r in
    let below : r < length c.args.settings.now.renditions = search rules in
    rw told.1 (record {
      before = c.loop-r.self;
      stays = c.loop-r.invariant.ok;
      due = inl (r, below, c.in_err-give_end_of.ensures.none);
      unshown = c.in_err-give_end_of.ensures.unshown;
    })

pub returns-in_err-give_end_of-clause-ok : goal.returns-in_err-give_end_of-clause-ok
returns-in_err-give_end_of-clause-ok g c =
    let told = err_from_is_err_and c.from_residual.result c.from_residual.ensures.1 in
    rw told.1 tt

pub returns-in_err-give_end_of-clause-ended : goal.returns-in_err-give_end_of-clause-ended
returns-in_err-give_end_of-clause-ended g c =
    let told = err_from_is_err_and c.from_residual.result c.from_residual.ensures.1 in
    rw told.1 tt

pub returns-in_err-give_end_of-clause-shown : goal.returns-in_err-give_end_of-clause-shown
returns-in_err-give_end_of-clause-shown g c = c.in_err-give_end_of.ensures.shown ∙ c.loop-r.invariant.shown
