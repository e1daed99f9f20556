use Rattle.std.proofs.Common.{◌≡◌, ◌∙◌, ◌<◌, inl, List, [], false, refl, ap, sym, subst, arith, length}
use Rattle.std.specs.List.{slice_index_or}
use Rattle.std.proofs.lemmas.Option.{slice_get-get_or}
use Rattle.ingest.specs.Lanes.{is_good}
use Rattle.ingest.specs.declared.lane.Lane.{Lane}
use Rattle.std.specs.Prelude.{sum}
use Rattle.std.proofs.lemmas.Result.{IfErr-at_err, IfOk-at_ok}
use Rattle.live_board.specs.Counts.{counts_shown}
use Rattle.live_board.specs.Snapshots.{Known}
use Rattle.ladder_items.specs.declared.fault.PackFault.{PackFault}
use Rattle.ladder_items.specs.declared.fault.PackFault.TheVariants.{NoMemory}
use Rattle.rounds.specs.declared.run.books.Books.{Books}
use Rattle.rounds.specs.declared.run.course.Course.{Course}
use Rattle.rounds.specs.Showing.{counts_of}
use Rattle.rounds.specs.Rounds.{unfed_of}
use Rattle.rounds.specs.Courses.{HasClosed, IsOn, IsStopped, NoneClosed, turns_in}
use Rattle.rounds.specs.Heralds.{AllHeard, AreHeard, TellsAll}
use Rattle.rounds.proofs.Telling.{heard-all, heard-none, heard-stayed, heard-swapped, heard-told}
use Rattle.rounds.proofs.Between.{counted-more, counted-read, few-rounds, counted-round, on-turns, on-as, never, all-given}
use Rattle.rounds.proofs.Gates.{none-word, unheld-word}
use Rattle.rounds.proofs.Permitting.{through-none, through-same, through-then}
use Rattle.rounds.proofs.run.rounds_loop.run_rounds.Goals as goal
use Rattle.rounds.proofs.run.rounds_loop.run_rounds.Goals.{in-None, in-Some+in_default+then-not-any_closed+then-rests}

pub give_due_ends-now-requires : goal.give_due_ends-now-requires
give_due_ends-now-requires g c = let some = c.requires.on in record { on = (some.0, c.loop.invariant.on some.0 some.1) }

pub returns-in-Err-clause-err : goal.returns-in-Err-clause-err
returns-in-Err-clause-err g c start on = IfErr-at_err _ c.in-Err.is c.give_due_ends-now.ensures.err start (c.loop.invariant.on start on)

pub swap_spools-now-requires : goal.swap_spools-now-requires
swap_spools-now-requires g c =
    let some = c.requires.on in
    let on = c.loop.invariant.on some.0 some.1 in
    record { each = c.loop.invariant.each ∙ (sym on.world.same_lanes ∙ ap (λ l. length l.items) (sym c.give_due_ends-now.ensures.none_read.lanes)) }

pub returns-in_default-swapped-clause-err : goal.returns-in_default-swapped-clause-err
returns-in_default-swapped-clause-err g c start on =
    let e = c.give_due_ends-now.ensures in
    let on1 = IfOk-at_ok _ c.in_default.is e.ok start (c.loop.invariant.on start on) in
    subst (λ (k : Known). IsStopped g.S.Source.input g.O.Outlet.output c.args.setup.now.settings.now start c.swap_spools-now.result.0.broadcast.course k NoMemory) (sym c.swap_spools-now.ensures.held)
    (IfErr-at_err _ c.in_default-swapped.is c.swap_spools-now.ensures.err c.args.setup.now.settings.now start _ on1)

pub run_round-now-requires-clause-each : goal.run_round-now-requires-clause-each
run_round-now-requires-clause-each g c κs within =
    let some = c.requires.on in
    let on = c.loop.invariant.on some.0 some.1 in
    ap length c.deref-in-loop.ensures.value
    ∙ (IfOk-at_ok _ c.in-Ok.is c.swap_spools-now.ensures.each ∙ (ap (λ l. length l.items) c.give_due_ends-now.ensures.none_read.lanes ∙ on.world.same_lanes))

pub run_round-now-requires-clause-on : goal.run_round-now-requires-clause-on
run_round-now-requires-clause-on g c κs within =
    let some = c.requires.on in
    let e = c.give_due_ends-now.ensures in
    let on1 = IfOk-at_ok _ c.in_default.is e.ok some.0 (c.loop.invariant.on some.0 some.1) in
    let t = c.swap_spools-now.ensures in
    let full = IfOk-at_ok _ c.in-Ok.is t.ok c.args.setup.now.settings.now some.0 _ on1 in
    let on2 = on-as _ _ _ some.0 _ _ _ _ c.deref-in-loop.result.now t.held c.deref-in-loop.ensures.value full in
    (some.0, on2)

-- a full spool with nothing unfed is of a lane that had nothing closed when the ends were given
pub run_round-now-requires-clause-ends : goal.run_round-now-requires-clause-ends
run_round-now-requires-clause-ends g c κs within k lane below at none =
    let some = c.requires.on in
    let e = c.give_due_ends-now.ensures in
    let t = c.swap_spools-now.ensures in
    let on1 = IfOk-at_ok _ c.in_default.is e.ok some.0 (c.loop.invariant.on some.0 some.1) in
    let lanes = c.give_due_ends-now.result.0.broadcast.course.lanes.items in
    let small : k < length lanes = omega (arith, below, on1.world.same_lanes) in
    let was = slice_get-get_or lanes k lane small in
    let each = IfOk-at_ok _ c.in-Ok.is t.each in
    let taken = IfOk-at_ok _ c.in-Ok.is t.taken k (slice_index_or lanes k lane) lane (omega (arith, small, each)) was at in
    let nothing : unfed_of c.in-Ok.full.items k ≡ [] = ap (λ l. unfed_of l k) (sym c.deref-in-loop.ensures.value) ∙ none in
    ap (λ (d : Course _ _). slice_index_or d.ended.items k false) t.same
    ∙ (IfOk-at_ok _ c.in_default.is e.ended k (slice_index_or lanes k lane) below was (sym taken.0 ∙ nothing) ∙ ap is_good (sym taken.1))

pub run_round-now-requires-clause-rounds : goal.run_round-now-requires-clause-rounds
run_round-now-requires-clause-rounds g c κs within =
    let some = c.requires.on in
    let e = c.give_due_ends-now.ensures in
    let on1 = IfOk-at_ok _ c.in_default.is e.ok some.0 (c.loop.invariant.on some.0 some.1) in
    let closed : HasClosed c.give_due_ends-now.result.0.broadcast.course.lanes.items = subst HasClosed c.deref.ensures.value (c.if-not-any_closed.ensures.some refl) in
    let few = few-rounds c.give_due_ends-now.result.0.books.rounds c.give_due_ends-now.result.0.broadcast.course closed
    (counted-read c.loop.between.books.rounds c.give_due_ends-now.result.0.books.rounds _ _ (ap (λ (b : Books). b.rounds) e.books) e.none_read c.loop.invariant.counted) in
    omega (arith, few, on-turns _ _ _ some.0 _ _ _ on1, ap (λ (b : Books). b.rounds) c.swap_spools-now.ensures.books)

pub returns-in-Err-answer-clause-err : goal.returns-in-Err-answer-clause-err
returns-in-Err-answer-clause-err g c start on =
    let e = c.give_due_ends-now.ensures in
    let on1 = IfOk-at_ok _ c.in_default.is e.ok start (c.loop.invariant.on start on) in
    let t = c.swap_spools-now.ensures in
    let full = IfOk-at_ok _ c.in-Ok.is t.ok c.args.setup.now.settings.now start _ on1 in
    let on2 = on-as _ _ _ start _ _ _ _ c.deref-in-loop.result.now t.held c.deref-in-loop.ensures.value full in
    IfErr-at_err _ c.in-Err-answer.is c.run_round-now.ensures.err start on2

pub loop-preserved : goal.loop-preserved
loop-preserved g c =
    let some = c.requires.on in
    let e = c.give_due_ends-now.ensures in
    let on1 = IfOk-at_ok _ c.in_default.is e.ok some.0 (c.loop.invariant.on some.0 some.1) in
    let closed : HasClosed c.give_due_ends-now.result.0.broadcast.course.lanes.items = subst HasClosed c.deref.ensures.value (c.if-not-any_closed.ensures.some refl) in
    let few = few-rounds c.give_due_ends-now.result.0.books.rounds c.give_due_ends-now.result.0.broadcast.course closed
    (counted-read c.loop.between.books.rounds c.give_due_ends-now.result.0.books.rounds _ _ (ap (λ (b : Books). b.rounds) e.books) e.none_read c.loop.invariant.counted) in
    let t = c.swap_spools-now.ensures in
    let r = IfOk-at_ok _ c.in_default-answer.is c.run_round-now.ensures.ok in
    let before = c.loop.invariant.on some.0 some.1 in
    let none = IfOk-at_ok _ c.in-Ok.is t.empty in
    let sums = ap (λ (d : Course _ _). sum (counts_of d.playlists.items)) t.same ∙ ap (λ p. sum (counts_of p.items)) e.playlists in
    let turns = ap (λ (d : Course _ _). turns_in d) t.same in
    let full = IfOk-at_ok _ c.in-Ok.is t.ok c.args.setup.now.settings.now some.0 _ on1 in
    let after = r.driven.on some.0 (on-as _ _ _ some.0 _ _ _ _ c.deref-in-loop.result.now t.held c.deref-in-loop.ensures.value full) in
    let W : PackFault → Type 0 = g.H.Herald.was_told c.args.herald.now in
    let told1 = heard-told W 32 c.loop.telling.told c.give_due_ends-now.new.telling.told c.loop.between.broadcast.course.lanes.items
    (subst (λ h. TellsAll (g.H.Herald.was_told h) 32 c.loop.telling.told c.loop.between.broadcast.course.lanes.items c.give_due_ends-now.new.telling.told) c.loop.invariant.herald e.told) c.loop.invariant.told in
    let told2 = subst (λ (ls : List Lane). AreHeard W 32 c.give_due_ends-now.new.telling.told ls) (ap (λ l. l.items) (sym e.none_read.lanes)) told1 in
    record {
      on = λ start on.
          let on1 = IfOk-at_ok _ c.in_default.is e.ok start (c.loop.invariant.on start on) in
          let full = IfOk-at_ok _ c.in-Ok.is t.ok c.args.setup.now.settings.now start _ on1 in
          r.driven.on start (on-as _ _ _ start _ _ _ _ c.deref-in-loop.result.now t.held c.deref-in-loop.ensures.value full);
      each = IfOk-at_ok _ c.in-Ok.is t.each ∙ (ap (λ l. length l.items) e.none_read.lanes ∙ before.world.same_lanes);
      workers = r.each ∙ (ap (λ (b : Books). length b.workers.items) t.books ∙ (ap (λ (b : Books). length b.workers.items) e.books ∙ c.loop.invariant.workers));
      right = omega (arith, r.driven.fair, c.loop.invariant.right, ap (λ (b : Books). b.right) t.books, ap (λ (b : Books). b.right) e.books, sums);
      told = heard-stayed W 32 c.give_due_ends-now.new.telling.told c.swap_spools-now.result.0.broadcast.course.lanes.items c.run_round-now.result.0.broadcast.course.lanes.items
          (after.world.same_lanes ∙ sym full.world.same_lanes) r.driven.further.stopped
          (heard-swapped W 32 (length c.in-Ok.full.items) c.give_due_ends-now.new.telling.told c.give_due_ends-now.result.0.broadcast.course.lanes.items c.swap_spools-now.result.0.broadcast.course.lanes.items
          (full.world.same_lanes ∙ sym on1.world.same_lanes) (sym (IfOk-at_ok _ c.in-Ok.is t.each)) (λ k lane now below at is. (IfOk-at_ok _ c.in-Ok.is t.taken k lane now below at is).1) told2);
      herald = ap (λ h. h.now) e.herald ∙ c.loop.invariant.herald;
      let_through = through-then (g.G.Gate.lets c.args.setup.now.gate.now) c.args.between.broadcast.held.publisher.list
          c.swap_spools-now.result.0.broadcast.held.publisher.list
          c.run_round-now.result.0.broadcast.held.publisher.list
          (through-same (g.G.Gate.lets c.args.setup.now.gate.now) c.args.between.broadcast.held.publisher.list c.loop.between.broadcast.held.publisher.list c.swap_spools-now.result.0.broadcast.held.publisher.list
          (ap (λ (k : Known). counts_shown k.list) t.held ∙ e.shown) c.loop.invariant.let_through) c.run_round-now.ensures.let_through;
      counted = counted-round c.swap_spools-now.result.0.books.rounds c.run_round-now.result.0.books.rounds c.swap_spools-now.result.0.broadcast.course c.run_round-now.result.0.broadcast.course r.rounds (omega (arith, few, ap (λ (b : Books). b.rounds) t.books, turns)) r.driven.further none;
    }

pub rests-requires : goal.rests-requires
rests-requires g c =
    let some = c.requires.on in
    let on = IfOk-at_ok _ c.in_default.is c.give_due_ends-now.ensures.ok some.0 (c.loop.invariant.on some.0 some.1) in
    record { each = on.counted ∙ sym on.world.same_lanes }

pub read_between-now-requires : goal.read_between-now-requires
read_between-now-requires g c =
    let some = c.requires.on in
    let on = IfOk-at_ok _ c.in_default.is c.give_due_ends-now.ensures.ok some.0 (c.loop.invariant.on some.0 some.1) in
    record { on = (c.args.setup.now.settings.now, some.0, c.give_due_ends-now.result.0.broadcast.held.publisher, (λ k. []), on) }

pub returns-in-Err-read-clause-err : goal.returns-in-Err-read-clause-err
returns-in-Err-read-clause-err g c start on =
    let on1 = IfOk-at_ok _ c.in_default.is c.give_due_ends-now.ensures.ok start (c.loop.invariant.on start on) in
    subst (λ (k : Known). IsStopped g.S.Source.input g.O.Outlet.output c.args.setup.now.settings.now start c.read_between-now.result.0.broadcast.course k NoMemory) (sym c.read_between-now.ensures.held)
    (IfErr-at_err _ c.in-Err-read.is c.read_between-now.ensures.err c.args.setup.now.settings.now start _ (λ k. []) on1)

pub loop-preserved-then-not-any_closed : goal.loop-preserved-then-not-any_closed
loop-preserved-then-not-any_closed g c =
    let e = c.give_due_ends-now.ensures in
    let r = c.read_between-now.ensures in
    let sums = ap (λ p. sum (counts_of p.items)) (IfOk-at_ok _ c.in_default-read.is r.playlists) ∙ ap (λ p. sum (counts_of p.items)) e.playlists in
    let same = ap (λ h. h.now) e.herald ∙ c.loop.invariant.herald in
    let W : PackFault → Type 0 = g.H.Herald.was_told c.args.herald.now in
    let told1 = heard-told W 32 c.loop.telling.told c.give_due_ends-now.new.telling.told c.loop.between.broadcast.course.lanes.items
    (subst (λ h. TellsAll (g.H.Herald.was_told h) 32 c.loop.telling.told c.loop.between.broadcast.course.lanes.items c.give_due_ends-now.new.telling.told) c.loop.invariant.herald e.told) c.loop.invariant.told in
    let told2 = subst (λ (ls : List Lane). AreHeard W 32 c.give_due_ends-now.new.telling.told ls) (ap (λ l. l.items) (sym e.none_read.lanes)) told1 in
    record {
      on = λ start on.
          let on1 = IfOk-at_ok _ c.in_default.is e.ok start (c.loop.invariant.on start on) in
          subst (λ (k : Known). IsOn g.S.Source.input g.O.Outlet.output c.args.setup.now.settings.now start c.read_between-now.result.0.broadcast.course k (λ k. [])) (sym r.held)
          (IfOk-at_ok _ c.in_default-read.is r.ok c.args.setup.now.settings.now start _ (λ k. []) on1);
      each = c.loop.invariant.each;
      workers = ap (λ (b : Books). length b.workers.items) r.books ∙ (ap (λ (b : Books). length b.workers.items) e.books ∙ c.loop.invariant.workers);
      right = omega (arith, c.loop.invariant.right, ap (λ (b : Books). b.right) r.books, ap (λ (b : Books). b.right) e.books, sums);
      told = subst (λ h. AreHeard (g.H.Herald.was_told h) 32 c.give_due_ends-now.new.telling.told c.give_due_ends-now.result.0.broadcast.course.lanes.items
          → AreHeard (g.H.Herald.was_told h) 32 c.read_between-now.new.telling.told c.read_between-now.result.0.broadcast.course.lanes.items) same (IfOk-at_ok _ c.in_default-read.is r.told) told2;
      herald = ap (λ h. h.now) r.herald ∙ same;
      let_through = through-same (g.G.Gate.lets c.args.setup.now.gate.now) c.args.between.broadcast.held.publisher.list c.loop.between.broadcast.held.publisher.list c.read_between-now.result.0.broadcast.held.publisher.list
          (ap (λ (k : Known). counts_shown k.list) r.held ∙ e.shown) c.loop.invariant.let_through;
      counted = counted-more c.give_due_ends-now.result.0.books.rounds c.read_between-now.result.0.books.rounds _ _ (ap (λ (b : Books). b.rounds) r.books) (IfOk-at_ok _ c.in_default-read.is r.further)
          (counted-read c.loop.between.books.rounds c.give_due_ends-now.result.0.books.rounds _ _ (ap (λ (b : Books). b.rounds) e.books) e.none_read c.loop.invariant.counted);
    }

pub returns-clause-ok : goal.returns-clause-ok
returns-clause-ok g c start on =
    elim c.match-next.branch [
      | in-None w ↦ never w.in-None.ensures.steps
      | in-Some+in_default+then-not-any_closed+then-rests w ↦ rw w.between-is (IfOk-at_ok _ w.in_default.is w.give_due_ends-now.ensures.ok start (c.loop.invariant.on start on))
    ]

pub returns-clause-all : goal.returns-clause-all
returns-clause-all g c =
    elim c.match-next.branch [
      | in-None w ↦ never w.in-None.ensures.steps
      | in-Some+in_default+then-not-any_closed+then-rests w ↦
          let e = w.give_due_ends-now.ensures in
          let some = c.requires.on in
          let on = c.loop.invariant.on some.0 some.1 in
          rw w.between-is (all-given (length c.args.setup.now.settings.now.renditions) w.give_due_ends-now.result.0.broadcast.course (w.if-rests.ensures.0 refl)
          (subst NoneClosed w.deref.ensures.value (w.if-not-any_closed.ensures.none refl)) (ap (λ l. length l.items) e.none_read.lanes ∙ on.world.same_lanes)
          (IfOk-at_ok _ w.in_default.is e.ended))
    ]

pub returns-in-Err-clause-held : goal.returns-in-Err-clause-held
returns-in-Err-clause-held g c = unheld-word _ _ (IfErr-at_err _ c.in-Err.is c.give_due_ends-now.ensures.unheld)

pub returns-in_default-swapped-clause-held : goal.returns-in_default-swapped-clause-held
returns-in_default-swapped-clause-held g c = none-word _ _ refl

pub returns-in-Err-answer-clause-held : goal.returns-in-Err-answer-clause-held
returns-in-Err-answer-clause-held g c = IfErr-at_err _ c.in-Err-answer.is c.run_round-now.ensures.held

pub returns-in-Err-read-clause-held : goal.returns-in-Err-read-clause-held
returns-in-Err-read-clause-held g c = none-word _ _ refl

pub loop-init : goal.loop-init
loop-init g c = record {
  on = λ start on. on;
  each = c.requires.each;
  workers = c.requires.workers;
  right = omega arith;
  told = subst (λ t. AreHeard (g.H.Herald.was_told c.args.herald.now) 32 t c.args.between.broadcast.course.lanes.items) (sym c.new-telling.ensures.none) (heard-none _ 32 _);
  herald = ap (λ h. h.now) c.new-telling.ensures.herald;
  let_through = through-none (g.G.Gate.lets c.args.setup.now.gate.now) c.args.between.broadcast.held.publisher.list;
  counted = inl (omega (arith, c.requires.first));
}

pub returns-clause-told : goal.returns-clause-told
returns-clause-told g c =
    elim c.match-next.branch [
      | in-None w ↦ never w.in-None.ensures.steps
      | in-Some+in_default+then-not-any_closed+then-rests w ↦
          let e = w.give_due_ends-now.ensures in
          let some = c.requires.on in
          let on = c.loop.invariant.on some.0 some.1 in
          let most = on.allowed.within.renditions.1 in
          let W : PackFault → Type 0 = g.H.Herald.was_told c.args.herald.now in
          rw w.between-is (subst (λ (ls : List Lane). AllHeard W ls) (ap (λ l. l.items) (sym e.none_read.lanes))
          (heard-all W 32 c.loop.telling.told w.give_due_ends-now.new.telling.told c.loop.between.broadcast.course.lanes.items (omega (arith, most, on.world.same_lanes))
          (subst (λ h. TellsAll (g.H.Herald.was_told h) 32 c.loop.telling.told c.loop.between.broadcast.course.lanes.items w.give_due_ends-now.new.telling.told) c.loop.invariant.herald e.told) c.loop.invariant.told))
    ]

pub returns-clause-right : goal.returns-clause-right
returns-clause-right g c =
    elim c.match-next.branch [
      | in-None w ↦ never w.in-None.ensures.steps
      | in-Some+in_default+then-not-any_closed+then-rests w ↦
          let e = w.give_due_ends-now.ensures in
          rw w.between-is (omega (arith, c.loop.invariant.right, ap (λ (b : Books). b.right) e.books, ap (λ p. sum (counts_of p.items)) e.playlists))
    ]

pub returns-clause-workers : goal.returns-clause-workers
returns-clause-workers g c =
    elim c.match-next.branch [
      | in-None w ↦ never w.in-None.ensures.steps
      | in-Some+in_default+then-not-any_closed+then-rests w ↦
          rw w.between-is (ap (λ (b : Books). length b.workers.items) w.give_due_ends-now.ensures.books ∙ c.loop.invariant.workers)
    ]

pub run_round-now-requires-clause-workers : goal.run_round-now-requires-clause-workers
run_round-now-requires-clause-workers g c κs within =
    ap (λ (b : Books). length b.workers.items) c.swap_spools-now.ensures.books
    ∙ (ap (λ (b : Books). length b.workers.items) c.give_due_ends-now.ensures.books ∙ c.loop.invariant.workers)

pub returns-in-Err-clause-let_through : goal.returns-in-Err-clause-let_through
returns-in-Err-clause-let_through g c = through-same (g.G.Gate.lets c.args.setup.now.gate.now) c.args.between.broadcast.held.publisher.list c.loop.between.broadcast.held.publisher.list c.give_due_ends-now.result.0.broadcast.held.publisher.list c.give_due_ends-now.ensures.shown c.loop.invariant.let_through

pub returns-in_default-swapped-clause-let_through : goal.returns-in_default-swapped-clause-let_through
returns-in_default-swapped-clause-let_through g c =
    through-same (g.G.Gate.lets c.args.setup.now.gate.now) c.args.between.broadcast.held.publisher.list c.loop.between.broadcast.held.publisher.list c.swap_spools-now.result.0.broadcast.held.publisher.list
    (ap (λ (k : Known). counts_shown k.list) c.swap_spools-now.ensures.held ∙ c.give_due_ends-now.ensures.shown) c.loop.invariant.let_through

pub returns-in-Err-answer-clause-let_through : goal.returns-in-Err-answer-clause-let_through
returns-in-Err-answer-clause-let_through g c =
    through-then (g.G.Gate.lets c.args.setup.now.gate.now) c.args.between.broadcast.held.publisher.list
    c.swap_spools-now.result.0.broadcast.held.publisher.list
    c.run_round-now.result.0.broadcast.held.publisher.list
    (through-same (g.G.Gate.lets c.args.setup.now.gate.now) c.args.between.broadcast.held.publisher.list c.loop.between.broadcast.held.publisher.list c.swap_spools-now.result.0.broadcast.held.publisher.list
    (ap (λ (k : Known). counts_shown k.list) c.swap_spools-now.ensures.held ∙ c.give_due_ends-now.ensures.shown) c.loop.invariant.let_through)
    c.run_round-now.ensures.let_through

pub returns-in-Err-read-clause-let_through : goal.returns-in-Err-read-clause-let_through
returns-in-Err-read-clause-let_through g c =
    through-same (g.G.Gate.lets c.args.setup.now.gate.now) c.args.between.broadcast.held.publisher.list c.loop.between.broadcast.held.publisher.list c.read_between-now.result.0.broadcast.held.publisher.list
    (ap (λ (k : Known). counts_shown k.list) c.read_between-now.ensures.held ∙ c.give_due_ends-now.ensures.shown) c.loop.invariant.let_through

pub returns-clause-let_through : goal.returns-clause-let_through
returns-clause-let_through g c =
    elim c.match-next.branch [
      | in-None w ↦ never w.in-None.ensures.steps
      | in-Some+in_default+then-not-any_closed+then-rests w ↦ rw w.between-is (through-same (g.G.Gate.lets c.args.setup.now.gate.now) c.args.between.broadcast.held.publisher.list c.loop.between.broadcast.held.publisher.list w.give_due_ends-now.result.0.broadcast.held.publisher.list w.give_due_ends-now.ensures.shown c.loop.invariant.let_through)
    ]
