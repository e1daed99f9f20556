use Rattle.std.proofs.Common.{◌≡◌, ◌∙◌, ◌-◌, inl, inr, refl, sym, ap, subst, arith, rules, length}
use Rattle.std.proofs.lemmas.Bool.{false≢true}
use Rattle.std.proofs.lemmas.Result.{err_from_is_err_and}
use Rattle.rounds.specs.declared.run.course.Course.{Course}
use Rattle.flow_core.specs.Gatherings.{awaited}
use Rattle.rounds.specs.declared.round.machine.Round.{Round}
use Rattle.live_board.specs.Snapshots.{Known}
use Rattle.ladder_items.specs.declared.fault.PackFault.TheVariants.{NoMemory}
use Rattle.rounds.specs.Courses.{IsStopped, turns_in}
use Rattle.rounds.proofs.Driven.{in-read}
use Rattle.rounds.proofs.Permitting.{in-shown}
use Rattle.rounds.proofs.Pacing.{enough-as, still-enough}
use Rattle.rounds.proofs.Soon.{most-before, none-unread}
use Rattle.rounds.proofs.Turning.{more-none, more-then, more-unread, none-more}
use Rattle.rounds.proofs.Gates.{none-word}
use Rattle.rounds.proofs.round.machine.Round.read_on.Goals as goal

pub is_enough-requires : goal.is_enough-requires
is_enough-requires g c =
    let some = c.requires.somewhere in
    let now = c.loop.invariant.ok some.0 some.1 some.2 in
    record { each = now.on.counted ∙ sym now.on.world.same_lanes }

pub read_ready-requires-clause-on : goal.read_ready-requires-clause-on
read_ready-requires-clause-on g c =
    let some = c.requires.somewhere in
    let now = c.loop.invariant.ok some.0 some.1 some.2 in
    (c.args.settings.now, some.0, c.loop.self.broadcast.held.publisher, now.waiting, now.on)

pub returns-in_err-read_ready-clause-err : goal.returns-in_err-read_ready-clause-err
returns-in_err-read_ready-clause-err g c =
    let told = err_from_is_err_and c.from_residual.result c.from_residual.ensures.1 in
    rw (told.1, told.2) (λ start unfed old.
    let now = c.loop.invariant.ok start unfed old in
    subst (λ (k : Known). IsStopped g.S.Source.input g.O.Outlet.output c.args.settings.now start c.read_ready.new.self.course k NoMemory) (sym c.in_err-read_ready.ensures.held)
    (c.in_err-read_ready.ensures.err c.args.settings.now start c.loop.self.broadcast.held.publisher now.waiting now.on))

pub returns-then-not-branch-clause-ok : goal.returns-then-not-branch-clause-ok
returns-then-not-branch-clause-ok g c start unfed old =
    let same = ap (λ (d : Course _ _). d.playlists) c.in_ok-read_ready.ensures.same in
    in-shown _ _ _ start unfed _ _ _ _ c.in_ok-read_ready.ensures.held
    (in-read _ _ _ _ _ start unfed _ _ _ _ (λ waiting on. c.in_ok-read_ready.ensures.ok c.args.settings.now start c.loop.self.broadcast.held.publisher waiting on) same (c.loop.invariant.ok start unfed old))

pub returns-then-not-branch-clause-further : goal.returns-then-not-branch-clause-further
returns-then-not-branch-clause-further g c = more-then _ _ _ c.loop.invariant.further c.in_ok-read_ready.ensures.further

pub take_and_give-requires : goal.take_and_give-requires
take_and_give-requires g c =
    let some = c.requires.somewhere in
    let same = ap (λ (d : Course _ _). d.playlists) c.in_ok-read_ready.ensures.same in
    let shown =
    in-shown _ _ _ some.0 some.1 _ _ _ _ c.in_ok-read_ready.ensures.held
    (in-read _ _ _ _ _ some.0 some.1 _ _ _ _ (λ waiting on. c.in_ok-read_ready.ensures.ok c.args.settings.now some.0 c.loop.self.broadcast.held.publisher waiting on) same
    (c.loop.invariant.ok some.0 some.1 some.2)) in
    (c.type_bounds.send-G-File, (c.requires.only, (some.0, some.1, shown)))

pub returns-in_err-take_and_give-clause-err : goal.returns-in_err-take_and_give-clause-err
returns-in_err-take_and_give-clause-err g c =
    let told = err_from_is_err_and c.from_residual-in_err-take_and_give.result c.from_residual-in_err-take_and_give.ensures.1 in
    let same = ap (λ (d : Course _ _). d.playlists) c.in_ok-read_ready.ensures.same in
    rw (told.1, told.2) (λ start unfed old. c.in_err-take_and_give.ensures.err start unfed
    (in-shown _ _ _ start unfed _ _ _ _ c.in_ok-read_ready.ensures.held
    (in-read _ _ _ _ _ start unfed _ _ _ _ (λ waiting on. c.in_ok-read_ready.ensures.ok c.args.settings.now start c.loop.self.broadcast.held.publisher waiting on) same (c.loop.invariant.ok start unfed old))))

pub loop-preserved : goal.loop-preserved
loop-preserved g c =
    let same = ap (λ (d : Course _ _). d.playlists) c.in_ok-read_ready.ensures.same in
    record {
      ok = λ start unfed old. c.in_ok-take_and_give.ensures.ok start unfed
          (in-shown _ _ _ start unfed _ _ _ _ c.in_ok-read_ready.ensures.held
          (in-read _ _ _ _ _ start unfed _ _ _ _ (λ waiting on. c.in_ok-read_ready.ensures.ok c.args.settings.now start c.loop.self.broadcast.held.publisher waiting on) same (c.loop.invariant.ok start unfed old)));
      further = more-then _ _ _ c.loop.invariant.further (more-then _ _ _ c.in_ok-read_ready.ensures.further (more-unread _ _ c.in_ok-take_and_give.ensures.none_read));
      exact = omega (arith, c.loop.invariant.exact, c.in_ok-take_and_give.ensures.exact);
      due = omega (arith, c.in_ok-take_and_give.ensures.due, c.loop.invariant.due, ap (λ (k : Known). length k.list) c.in_ok-read_ready.ensures.held);
      dry = λ more. c.in_ok-take_and_give.ensures.dry;
      idle = λ enough. let at = c.loop.invariant.idle enough in
          let course = ap (λ (s : Round _ _ _ _ _ _). s.broadcast.course) at in
          let left = c.awaited-awaited.ensures ∙ ap (λ (s : Round _ _ _ _ _ _). awaited s.collector.sequences) at in
          let none : c.turns_had.result - c.turns_had-before.result ≡ 0 = omega (arith, c.turns_had.ensures.is, c.turns_had-before.ensures.is, ap turns_in course) in
          absurd (false≢true (c.if-is_enough.ensures.1 (still-enough c.args.pace _ _ _ _ _ course left none enough)));
      soon = λ more. record {
        before = c.loop.self;
        moves = c.loop.invariant.ok;
        further = c.loop.invariant.further;
        few = λ enough.
            let had : c.turns_had.result - c.turns_had-before.result ≡ turns_in c.loop.self.broadcast.course - turns_in c.args.self.now.broadcast.course = omega (arith, c.turns_had.ensures.is, c.turns_had-before.ensures.is) in
            false≢true (c.if-is_enough.ensures.1 (enough-as c.args.pace c.loop.self.broadcast.course _ _ _ _ c.awaited-awaited.ensures had enough));
        last = λ k. most-before _ k _ _ _ (c.in_ok-read_ready.ensures.each k) (none-unread k _ _ c.in_ok-take_and_give.ensures.none_read);
      };
      buffer = search rules;
    }

pub returns-in_err-read_ready-clause-held : goal.returns-in_err-read_ready-clause-held
returns-in_err-read_ready-clause-held g c =
    let told = err_from_is_err_and c.from_residual.result c.from_residual.ensures.1 in
    rw (told.1, told.2) (none-word _ _ refl)

pub returns-in_err-take_and_give-clause-held : goal.returns-in_err-take_and_give-clause-held
returns-in_err-take_and_give-clause-held g c =
    let told = err_from_is_err_and c.from_residual-in_err-take_and_give.result c.from_residual-in_err-take_and_give.ensures.1 in
    rw (told.1, told.2) c.in_err-take_and_give.ensures.held

pub returns-then-not-branch-clause-idle : goal.returns-then-not-branch-clause-idle
returns-then-not-branch-clause-idle g c enough =
    let at = c.loop.invariant.idle enough in
    let course = ap (λ (s : Round _ _ _ _ _ _). s.broadcast.course) at in
    let left = c.awaited-awaited.ensures ∙ ap (λ (s : Round _ _ _ _ _ _). awaited s.collector.sequences) at in
    let none : c.turns_had.result - c.turns_had-before.result ≡ 0 = omega (arith, c.turns_had.ensures.is, c.turns_had-before.ensures.is, ap turns_in course) in
    absurd (false≢true (c.if-is_enough.ensures.1 (still-enough c.args.pace _ _ _ _ _ course left none enough)))

pub returns-then-not-branch-clause-dry : goal.returns-then-not-branch-clause-dry
returns-then-not-branch-clause-dry g c more =
    let none = none-more _ _ _ c.if-not-branch.true c.in_ok-read_ready.ensures.told in
    c.loop.invariant.dry (omega (arith, more, none))

pub returns-in_err-read_ready-clause-none : goal.returns-in_err-read_ready-clause-none
returns-in_err-read_ready-clause-none g c =
    let told = err_from_is_err_and c.from_residual.result c.from_residual.ensures.1 in
    rw told.1 (λ enough.
    let at = c.loop.invariant.idle enough in
    let course = ap (λ (s : Round _ _ _ _ _ _). s.broadcast.course) at in
    let left = c.awaited-awaited.ensures ∙ ap (λ (s : Round _ _ _ _ _ _). awaited s.collector.sequences) at in
    let none : c.turns_had.result - c.turns_had-before.result ≡ 0 = omega (arith, c.turns_had.ensures.is, c.turns_had-before.ensures.is, ap turns_in course) in
    false≢true (c.if-is_enough.ensures.1 (still-enough c.args.pace _ _ _ _ _ course left none enough)))

pub returns-in_err-take_and_give-clause-none : goal.returns-in_err-take_and_give-clause-none
returns-in_err-take_and_give-clause-none g c =
    let told = err_from_is_err_and c.from_residual-in_err-take_and_give.result c.from_residual-in_err-take_and_give.ensures.1 in
    rw told.1 (λ enough.
    let at = c.loop.invariant.idle enough in
    let course = ap (λ (s : Round _ _ _ _ _ _). s.broadcast.course) at in
    let left = c.awaited-awaited.ensures ∙ ap (λ (s : Round _ _ _ _ _ _). awaited s.collector.sequences) at in
    let none : c.turns_had.result - c.turns_had-before.result ≡ 0 = omega (arith, c.turns_had.ensures.is, c.turns_had-before.ensures.is, ap turns_in course) in
    false≢true (c.if-is_enough.ensures.1 (still-enough c.args.pace _ _ _ _ _ course left none enough)))

pub returns-then-not-branch-clause-soon : goal.returns-then-not-branch-clause-soon
returns-then-not-branch-clause-soon g c more = record {
  before = c.loop.self;
  moves = c.loop.invariant.ok;
  further = c.loop.invariant.further;
  few = λ enough.
      let had : c.turns_had.result - c.turns_had-before.result ≡ turns_in c.loop.self.broadcast.course - turns_in c.args.self.now.broadcast.course = omega (arith, c.turns_had.ensures.is, c.turns_had-before.ensures.is) in
      false≢true (c.if-is_enough.ensures.1 (enough-as c.args.pace c.loop.self.broadcast.course _ _ _ _ c.awaited-awaited.ensures had enough));
  last = c.in_ok-read_ready.ensures.each;
}

pub returns-in_err-read_ready-clause-left : goal.returns-in_err-read_ready-clause-left
returns-in_err-read_ready-clause-left g c =
    let told = err_from_is_err_and c.from_residual.result c.from_residual.ensures.1 in
    rw (told.1, told.2) (inl c.in_err-read_ready.ensures.broken)

pub returns-in_err-take_and_give-clause-left : goal.returns-in_err-take_and_give-clause-left
returns-in_err-take_and_give-clause-left g c =
    let told = err_from_is_err_and c.from_residual-in_err-take_and_give.result c.from_residual-in_err-take_and_give.ensures.1 in
    rw (told.1, told.2) (inr (λ unheld. omega (arith, c.loop.invariant.due, ap (λ (k : Known). length k.list) c.in_ok-read_ready.ensures.held, c.in_err-take_and_give.ensures.short unheld)))

pub returns-then-is_enough-clause-enough : goal.returns-then-is_enough-clause-enough
returns-then-is_enough-clause-enough g c =
    let had : turns_in c.loop.self.broadcast.course - turns_in c.args.self.now.broadcast.course ≡ c.turns_had.result - c.turns_had-before.result = omega (arith, c.turns_had.ensures.is, c.turns_had-before.ensures.is) in
    inl (enough-as c.args.pace c.loop.self.broadcast.course _ _ _ _ (sym c.awaited-awaited.ensures) had (c.if-is_enough.ensures.0 refl))

pub returns-then-not-branch-clause-enough : goal.returns-then-not-branch-clause-enough
returns-then-not-branch-clause-enough g c = inr (c.in_ok-read_ready.ensures.idle c.if-not-branch.true)

pub returns-in_err-read_ready-clause-ok : goal.returns-in_err-read_ready-clause-ok
returns-in_err-read_ready-clause-ok g c =
    let told = err_from_is_err_and c.from_residual.result c.from_residual.ensures.1 in
    rw told.1 tt

pub returns-in_err-read_ready-clause-further : goal.returns-in_err-read_ready-clause-further
returns-in_err-read_ready-clause-further g c =
    let told = err_from_is_err_and c.from_residual.result c.from_residual.ensures.1 in
    rw told.1 tt

pub returns-in_err-read_ready-clause-exact : goal.returns-in_err-read_ready-clause-exact
returns-in_err-read_ready-clause-exact g c =
    let told = err_from_is_err_and c.from_residual.result c.from_residual.ensures.1 in
    rw told.1 tt

pub returns-in_err-read_ready-clause-due : goal.returns-in_err-read_ready-clause-due
returns-in_err-read_ready-clause-due g c =
    let told = err_from_is_err_and c.from_residual.result c.from_residual.ensures.1 in
    rw told.1 tt

pub returns-in_err-read_ready-clause-enough : goal.returns-in_err-read_ready-clause-enough
returns-in_err-read_ready-clause-enough g c =
    let told = err_from_is_err_and c.from_residual.result c.from_residual.ensures.1 in
    rw told.1 tt

pub returns-in_err-read_ready-clause-dry : goal.returns-in_err-read_ready-clause-dry
returns-in_err-read_ready-clause-dry g c =
    let told = err_from_is_err_and c.from_residual.result c.from_residual.ensures.1 in
    rw told.1 tt

pub returns-in_err-read_ready-clause-soon : goal.returns-in_err-read_ready-clause-soon
returns-in_err-read_ready-clause-soon g c =
    let told = err_from_is_err_and c.from_residual.result c.from_residual.ensures.1 in
    rw told.1 tt

pub returns-in_err-read_ready-clause-idle : goal.returns-in_err-read_ready-clause-idle
returns-in_err-read_ready-clause-idle g c =
    let told = err_from_is_err_and c.from_residual.result c.from_residual.ensures.1 in
    rw told.1 tt

pub returns-in_err-take_and_give-clause-ok : goal.returns-in_err-take_and_give-clause-ok
returns-in_err-take_and_give-clause-ok g c =
    let told = err_from_is_err_and c.from_residual-in_err-take_and_give.result c.from_residual-in_err-take_and_give.ensures.1 in
    rw told.1 tt

pub returns-in_err-take_and_give-clause-further : goal.returns-in_err-take_and_give-clause-further
returns-in_err-take_and_give-clause-further g c =
    let told = err_from_is_err_and c.from_residual-in_err-take_and_give.result c.from_residual-in_err-take_and_give.ensures.1 in
    rw told.1 tt

pub returns-in_err-take_and_give-clause-exact : goal.returns-in_err-take_and_give-clause-exact
returns-in_err-take_and_give-clause-exact g c =
    let told = err_from_is_err_and c.from_residual-in_err-take_and_give.result c.from_residual-in_err-take_and_give.ensures.1 in
    rw told.1 tt

pub returns-in_err-take_and_give-clause-due : goal.returns-in_err-take_and_give-clause-due
returns-in_err-take_and_give-clause-due g c =
    let told = err_from_is_err_and c.from_residual-in_err-take_and_give.result c.from_residual-in_err-take_and_give.ensures.1 in
    rw told.1 tt

pub returns-in_err-take_and_give-clause-enough : goal.returns-in_err-take_and_give-clause-enough
returns-in_err-take_and_give-clause-enough g c =
    let told = err_from_is_err_and c.from_residual-in_err-take_and_give.result c.from_residual-in_err-take_and_give.ensures.1 in
    rw told.1 tt

pub returns-in_err-take_and_give-clause-dry : goal.returns-in_err-take_and_give-clause-dry
returns-in_err-take_and_give-clause-dry g c =
    let told = err_from_is_err_and c.from_residual-in_err-take_and_give.result c.from_residual-in_err-take_and_give.ensures.1 in
    rw told.1 tt

pub returns-in_err-take_and_give-clause-soon : goal.returns-in_err-take_and_give-clause-soon
returns-in_err-take_and_give-clause-soon g c =
    let told = err_from_is_err_and c.from_residual-in_err-take_and_give.result c.from_residual-in_err-take_and_give.ensures.1 in
    rw told.1 tt

pub returns-in_err-take_and_give-clause-idle : goal.returns-in_err-take_and_give-clause-idle
returns-in_err-take_and_give-clause-idle g c =
    let told = err_from_is_err_and c.from_residual-in_err-take_and_give.result c.from_residual-in_err-take_and_give.ensures.1 in
    rw told.1 tt

pub returns-then-is_enough-clause-ok : goal.returns-then-is_enough-clause-ok
returns-then-is_enough-clause-ok g c = c.loop.invariant.ok

pub returns-then-is_enough-clause-further : goal.returns-then-is_enough-clause-further
returns-then-is_enough-clause-further g c = c.loop.invariant.further

pub returns-then-is_enough-clause-exact : goal.returns-then-is_enough-clause-exact
returns-then-is_enough-clause-exact g c = c.loop.invariant.exact

pub returns-then-is_enough-clause-due : goal.returns-then-is_enough-clause-due
returns-then-is_enough-clause-due g c = c.loop.invariant.due

pub returns-then-is_enough-clause-dry : goal.returns-then-is_enough-clause-dry
returns-then-is_enough-clause-dry g c = c.loop.invariant.dry

pub returns-then-is_enough-clause-soon : goal.returns-then-is_enough-clause-soon
returns-then-is_enough-clause-soon g c = c.loop.invariant.soon

pub returns-then-is_enough-clause-idle : goal.returns-then-is_enough-clause-idle
returns-then-is_enough-clause-idle g c = c.loop.invariant.idle

pub returns-then-not-branch-clause-exact : goal.returns-then-not-branch-clause-exact
returns-then-not-branch-clause-exact g c = c.loop.invariant.exact

pub returns-then-not-branch-clause-due : goal.returns-then-not-branch-clause-due
returns-then-not-branch-clause-due g c = omega (arith, c.loop.invariant.due, ap (λ (k : Known). length k.list) c.in_ok-read_ready.ensures.held)

pub loop-init : goal.loop-init
loop-init g c = record {
  ok = λ start unfed on. on;
  further = more-none c.args.self.now.broadcast.course;
  exact = refl;
  due = refl;
  dry = λ more. absurd (omega (arith, more));
  idle = λ enough. refl;
  soon = λ more. absurd (omega (arith, more));
  buffer = refl;
}
