use Rattle.std.proofs.Common.{◌≡◌, ◌∙◌, ◌-◌, List, inl, inr, refl, ap, arith, sym, subst, rules}
use Rattle.std.proofs.lemmas.Bool.{false≢true}
use Rattle.std.proofs.lemmas.Result.{err_from_is_err_and}
use Rattle.rounds.specs.declared.run.course.Course.{Course}
use Rattle.rounds.proofs.Pacing.{enough-as, enough-one, enough-since, still-here}
use Rattle.rounds.specs.Courses.{turns_in}
use Rattle.rounds.proofs.Soon.{most-before, none-looked}
use Rattle.ingest.specs.declared.lane.Lane.{Lane}
use Rattle.rounds.specs.Heralds.{AreHeard, TellsAll}
use Rattle.rounds.proofs.Telling.{heard-stayed, heard-told}
use Rattle.rounds.proofs.Turning.{more-then, more-looked, on-looked}
use Rattle.rounds.proofs.run.course.Course.read_more.Goals as goal

pub is_enough-requires : goal.is_enough-requires
is_enough-requires g c =
    let some = c.requires.on in
    let on = c.loop.invariant.ok some.0 some.1 some.2 some.3 some.4 in
    record { each = on.counted ∙ sym on.world.same_lanes }

pub read_ready-requires-clause-on : goal.read_ready-requires-clause-on
read_ready-requires-clause-on g c = let some = c.requires.on in (some.0, some.1, some.2, some.3, c.loop.invariant.ok some.0 some.1 some.2 some.3 some.4)

pub returns-in_err-read_ready-clause-err : goal.returns-in_err-read_ready-clause-err
returns-in_err-read_ready-clause-err g c =
    let told = err_from_is_err_and c.from_residual.result c.from_residual.ensures.1 in
    rw told.1 (λ ladder start shows waiting on. c.in_err-read_ready.ensures.err ladder start shows waiting (c.loop.invariant.ok ladder start shows waiting on))

pub loop-preserved-then-branch : goal.loop-preserved-then-branch
loop-preserved-then-branch g c = record {
  ok = λ ladder start shows waiting on. c.in_ok-read_ready.ensures.ok ladder start shows waiting (c.loop.invariant.ok ladder start shows waiting on);
  playlists = ap (λ (d : Course _ _). d.playlists) c.in_ok-read_ready.ensures.same ∙ c.loop.invariant.playlists;
  further = more-then _ _ _ c.loop.invariant.further c.in_ok-read_ready.ensures.further;
  idle = λ enough. absurd (false≢true (c.if-is_enough.ensures.1 (still-here c.args.pace _ _ _ _ (c.loop.invariant.idle enough) c.turns_had.ensures.is c.turns_had-before.ensures.is enough)));
  soon = λ more. record {
    before = c.loop.self;
    reads_on = c.loop.invariant.ok;
    further = c.loop.invariant.further;
    few = λ enough. false≢true (c.if-is_enough.ensures.1 (enough-since c.args.pace c.loop.self c.args.self.now _ _ c.turns_had.ensures.is c.turns_had-before.ensures.is enough));
    last = c.in_ok-read_ready.ensures.each;
  };
  told = λ heard.
      let some = c.requires.on in
      let on = c.loop.invariant.ok some.0 some.1 some.2 some.3 some.4 in
      let then = c.in_ok-read_ready.ensures.ok some.0 some.1 some.2 some.3 on in
      heard-stayed _ 32 _ _ _ (then.world.same_lanes ∙ sym on.world.same_lanes) c.in_ok-read_ready.ensures.further.stopped (c.loop.invariant.told heard);
  herald = c.loop.invariant.herald;
  buffer = search rules;
}

pub has_closed-requires : goal.has_closed-requires
has_closed-requires g c =
    let some = c.requires.on in
    let on = c.in_ok-read_ready.ensures.ok some.0 some.1 some.2 some.3 (c.loop.invariant.ok some.0 some.1 some.2 some.3 some.4) in
    record { each = on.counted ∙ sym on.world.same_lanes }

pub returns-then-has_closed-clause-ok : goal.returns-then-has_closed-clause-ok
returns-then-has_closed-clause-ok g c ladder start shows waiting on = c.in_ok-read_ready.ensures.ok ladder start shows waiting (c.loop.invariant.ok ladder start shows waiting on)

pub returns-then-has_closed-clause-playlists : goal.returns-then-has_closed-clause-playlists
returns-then-has_closed-clause-playlists g c = ap (λ (d : Course _ _). d.playlists) c.in_ok-read_ready.ensures.same ∙ c.loop.invariant.playlists

pub returns-then-has_closed-clause-further : goal.returns-then-has_closed-clause-further
returns-then-has_closed-clause-further g c = more-then _ _ _ c.loop.invariant.further c.in_ok-read_ready.ensures.further

pub wait-requires : goal.wait-requires
wait-requires g c = record { none = λ enough. false≢true (c.if-has_closed.ensures.1 enough) }

pub loop-preserved : goal.loop-preserved
loop-preserved g c = record {
  ok = λ ladder start shows waiting on.
      on-looked _ _ _ _ _ start _ _ shows waiting c.wait.ensures.sources c.wait.ensures.same (c.in_ok-read_ready.ensures.ok ladder start shows waiting (c.loop.invariant.ok ladder start shows waiting on));
  playlists = ap (λ (d : Course _ _). d.playlists) c.wait.ensures.same ∙ (ap (λ (d : Course _ _). d.playlists) c.in_ok-read_ready.ensures.same ∙ c.loop.invariant.playlists);
  further = more-then _ _ _ (more-then _ _ _ c.loop.invariant.further c.in_ok-read_ready.ensures.further) (more-looked _ _ c.wait.ensures.same);
  idle = λ enough. absurd (false≢true (c.if-is_enough.ensures.1 (still-here c.args.pace _ _ _ _ (c.loop.invariant.idle enough) c.turns_had.ensures.is c.turns_had-before.ensures.is enough)));
  soon = λ more. record {
    before = c.loop.self;
    reads_on = c.loop.invariant.ok;
    further = c.loop.invariant.further;
    few = λ enough. false≢true (c.if-is_enough.ensures.1 (enough-since c.args.pace c.loop.self c.args.self.now _ _ c.turns_had.ensures.is c.turns_had-before.ensures.is enough));
    last = λ k. most-before _ k _ _ _ (c.in_ok-read_ready.ensures.each k) (none-looked k _ _ c.wait.ensures.sources c.wait.ensures.same);
  };
  told = λ heard.
      let some = c.requires.on in
      let on = c.loop.invariant.ok some.0 some.1 some.2 some.3 some.4 in
      let then = c.in_ok-read_ready.ensures.ok some.0 some.1 some.2 some.3 on in
      let read = heard-stayed _ 32 _ _ _ (then.world.same_lanes ∙ sym on.world.same_lanes) c.in_ok-read_ready.ensures.further.stopped (c.loop.invariant.told heard) in
      subst (λ (ls : List Lane). AreHeard (g.H.Herald.was_told c.args.telling.now.herald.now) 32 c.wait.new.telling.told ls)
      (sym (ap (λ (d : Course _ _). d.lanes.items) c.wait.ensures.same))
      (heard-told _ 32 _ _ _ (subst (λ h. TellsAll (g.H.Herald.was_told h.now) 32 c.loop.telling.told c.read_ready.new.self.lanes.items c.wait.new.telling.told) c.loop.invariant.herald c.wait.ensures.told) read);
  herald = c.wait.ensures.herald ∙ c.loop.invariant.herald;
  buffer = search rules;
}

pub returns-then-has_closed-clause-idle : goal.returns-then-has_closed-clause-idle
returns-then-has_closed-clause-idle g c enough =
    absurd (false≢true (c.if-is_enough.ensures.1 (still-here c.args.pace _ _ _ _ (c.loop.invariant.idle enough) c.turns_had.ensures.is c.turns_had-before.ensures.is enough)))

pub returns-then-is_enough-clause-some : goal.returns-then-is_enough-clause-some
returns-then-is_enough-clause-some g c = enough-one _ c.loop.self (c.if-is_enough.ensures.0 refl)

pub returns-in_err-read_ready-clause-none : goal.returns-in_err-read_ready-clause-none
returns-in_err-read_ready-clause-none g c =
    let told = err_from_is_err_and c.from_residual.result c.from_residual.ensures.1 in
    rw told.1 (λ enough. false≢true (c.if-is_enough.ensures.1 (still-here c.args.pace _ _ _ _ (c.loop.invariant.idle enough) c.turns_had.ensures.is c.turns_had-before.ensures.is enough)))

pub returns-then-has_closed-clause-soon : goal.returns-then-has_closed-clause-soon
returns-then-has_closed-clause-soon g c more = record {
  before = c.loop.self;
  reads_on = c.loop.invariant.ok;
  further = c.loop.invariant.further;
  few = λ enough. false≢true (c.if-is_enough.ensures.1 (enough-since c.args.pace c.loop.self c.args.self.now _ _ c.turns_had.ensures.is c.turns_had-before.ensures.is enough));
  last = c.in_ok-read_ready.ensures.each;
}

pub returns-in_err-read_ready-clause-broken : goal.returns-in_err-read_ready-clause-broken
returns-in_err-read_ready-clause-broken g c =
    let told = err_from_is_err_and c.from_residual.result c.from_residual.ensures.1 in
    rw told.1 c.in_err-read_ready.ensures.broken

pub returns-then-has_closed-clause-told : goal.returns-then-has_closed-clause-told
returns-then-has_closed-clause-told g c heard =
    let some = c.requires.on in
    let on = c.loop.invariant.ok some.0 some.1 some.2 some.3 some.4 in
    let then = c.in_ok-read_ready.ensures.ok some.0 some.1 some.2 some.3 on in
    heard-stayed _ 32 _ _ _ (then.world.same_lanes ∙ sym on.world.same_lanes) c.in_ok-read_ready.ensures.further.stopped (c.loop.invariant.told heard)

pub returns-in_err-read_ready-clause-ok : goal.returns-in_err-read_ready-clause-ok
returns-in_err-read_ready-clause-ok g c =
    let told = err_from_is_err_and c.from_residual.result c.from_residual.ensures.1 in
    rw told.1 tt

pub returns-in_err-read_ready-clause-playlists : goal.returns-in_err-read_ready-clause-playlists
returns-in_err-read_ready-clause-playlists g c =
    let told = err_from_is_err_and c.from_residual.result c.from_residual.ensures.1 in
    rw told.1 tt

pub returns-in_err-read_ready-clause-further : goal.returns-in_err-read_ready-clause-further
returns-in_err-read_ready-clause-further g c =
    let told = err_from_is_err_and c.from_residual.result c.from_residual.ensures.1 in
    rw told.1 tt

pub returns-in_err-read_ready-clause-idle : goal.returns-in_err-read_ready-clause-idle
returns-in_err-read_ready-clause-idle g c =
    let told = err_from_is_err_and c.from_residual.result c.from_residual.ensures.1 in
    rw told.1 tt

pub returns-in_err-read_ready-clause-some : goal.returns-in_err-read_ready-clause-some
returns-in_err-read_ready-clause-some g c =
    let told = err_from_is_err_and c.from_residual.result c.from_residual.ensures.1 in
    rw told.1 tt

pub returns-in_err-read_ready-clause-soon : goal.returns-in_err-read_ready-clause-soon
returns-in_err-read_ready-clause-soon g c =
    let told = err_from_is_err_and c.from_residual.result c.from_residual.ensures.1 in
    rw told.1 tt

pub returns-in_err-read_ready-clause-told : goal.returns-in_err-read_ready-clause-told
returns-in_err-read_ready-clause-told g c =
    let told = err_from_is_err_and c.from_residual.result c.from_residual.ensures.1 in
    rw told.1 tt

pub returns-in_err-read_ready-clause-enough : goal.returns-in_err-read_ready-clause-enough
returns-in_err-read_ready-clause-enough g c =
    let told = err_from_is_err_and c.from_residual.result c.from_residual.ensures.1 in
    rw told.1 tt

pub returns-then-is_enough-clause-enough : goal.returns-then-is_enough-clause-enough
returns-then-is_enough-clause-enough g c =
    let had : turns_in c.loop.self - turns_in c.args.self.now ≡ c.turns_had.result - c.turns_had-before.result = omega (arith, c.turns_had.ensures.is, c.turns_had-before.ensures.is) in
    inl (enough-as c.args.pace c.loop.self 0 0 _ _ refl had (c.if-is_enough.ensures.0 refl))

pub returns-then-has_closed-clause-enough : goal.returns-then-has_closed-clause-enough
returns-then-has_closed-clause-enough g c = inr (c.in_ok-read_ready.ensures.idle c.if-branch.false)
