use Rattle.std.proofs.Common.{◌∙◌, inl, inr, ap, arith, subst, ℕ, ◌-◌}
use Rattle.std.specs.Prelude.{sum}
use Rattle.std.proofs.lemmas.Result.{err_from_is_err_and}
use Rattle.rounds.proofs.Driven.{in-first, in-begun, in-last, in-given}
use Rattle.rounds.proofs.Dues.{awaits-first}
use Rattle.flow_core.specs.Gatherings.{awaited}
use Rattle.rounds.specs.Courses.{turns_in}
use Rattle.rounds.specs.Paces.{HasEnough, wanted}
use Rattle.rounds.proofs.Pacing.{reads-unread}
use Rattle.rounds.proofs.Soon.{most-before, none-unread}
use Rattle.rounds.proofs.Turning.{more-then, more-unread}
use Rattle.rounds.proofs.round.machine.Round.drive.Goals as goal

pub feed_all-requires : goal.feed_all-requires
feed_all-requires g c =
    let some = c.requires.on in
    (c.type_bounds.send-G-File, (c.requires.only, (c.requires.planned, (some.0, in-first _ _ _ _ _ some.0 c.args.spools.now _ _ _ c.requires.each c.requires.behind some.1))))

pub returns-in_err-feed_all-clause-err : goal.returns-in_err-feed_all-clause-err
returns-in_err-feed_all-clause-err g c =
    let told = err_from_is_err_and c.from_residual.result c.from_residual.ensures.1 in
    rw (told.1, told.2) (λ start on. c.in_err-feed_all.ensures.err start (in-first _ _ _ _ _ start c.args.spools.now _ _ _ c.requires.each c.requires.behind on))

pub read_on-requires-clause-somewhere : goal.read_on-requires-clause-somewhere
read_on-requires-clause-somewhere g c κs within =
    let some = c.requires.on in
    let fed = c.in_ok-feed_all.ensures.ok some.0 (in-first _ _ _ _ _ some.0 c.args.spools.now _ _ _ c.requires.each c.requires.behind some.1) in
    (some.0, fed.0, fed.1)

pub returns-in_err-read_on-clause-err : goal.returns-in_err-read_on-clause-err
returns-in_err-read_on-clause-err g c =
    let told = err_from_is_err_and c.from_residual-in_err-read_on.result c.from_residual-in_err-read_on.ensures.1 in
    rw (told.1, told.2) (λ start on.
    let fed = c.in_ok-feed_all.ensures.ok start (in-first _ _ _ _ _ start c.args.spools.now _ _ _ c.requires.each c.requires.behind on) in
    c.in_err-read_on.ensures.err start fed.0 fed.1)

pub give_expected-requires : goal.give_expected-requires
give_expected-requires g c =
    let some = c.requires.on in
    let fed = c.in_ok-feed_all.ensures.ok some.0 (in-first _ _ _ _ _ some.0 c.args.spools.now _ _ _ c.requires.each c.requires.behind some.1) in
    (c.type_bounds.send-G-File, (c.requires.only, (some.0, fed.0, c.in_ok-read_on.ensures.ok some.0 fed.0 fed.1)))

pub returns-in_err-give_expected-clause-err : goal.returns-in_err-give_expected-clause-err
returns-in_err-give_expected-clause-err g c =
    let told = err_from_is_err_and c.from_residual-in_err-give_expected.result c.from_residual-in_err-give_expected.ensures.1 in
    rw (told.1, told.2) (λ start on.
    let fed = c.in_ok-feed_all.ensures.ok start (in-first _ _ _ _ _ start c.args.spools.now _ _ _ c.requires.each c.requires.behind on) in
    c.in_err-give_expected.ensures.err start fed.0 (c.in_ok-read_on.ensures.ok start fed.0 fed.1))

pub returns-clause-ok : goal.returns-clause-ok
returns-clause-ok g c =
    let some = c.requires.on in
    let fed = c.in_ok-feed_all.ensures.ok some.0 (in-first _ _ _ _ _ some.0 c.args.spools.now _ _ _ c.requires.each c.requires.behind some.1) in
    let last = c.in_ok-give_expected.ensures.ok some.0 fed.0 (c.in_ok-read_on.ensures.ok some.0 fed.0 fed.1) in
    let begun = in-begun _ _ _ _ _ some.0 _ _ _ c.args.self.now.collector c.requires.behind some.1 in
    let given = in-given _ _ _ _ _ some.0 fed.0 _ _ _ c.in_ok-give_expected.ensures.all last in
    record {
      on = λ start on.
          let fed = c.in_ok-feed_all.ensures.ok start (in-first _ _ _ _ _ start c.args.spools.now _ _ _ c.requires.each c.requires.behind on) in
          in-last _ _ _ _ _ start fed.0 _ _ _ c.in_ok-give_expected.ensures.all fed.2 (c.in_ok-give_expected.ensures.ok start fed.0 (c.in_ok-read_on.ensures.ok start fed.0 fed.1));
      further = more-then _ _ _ (more-unread _ _ c.in_ok-feed_all.ensures.none_read)
          (more-then _ _ _ c.in_ok-read_on.ensures.further (more-unread _ _ c.in_ok-give_expected.ensures.none_read));
      fair = omega (arith, begun, given, c.in_ok-feed_all.ensures.fair, c.in_ok-read_on.ensures.exact, c.in_ok-give_expected.ensures.fair);
      soon = λ more.
          let first = ap (λ t. sum t.items) c.in_ok-feed_all.ensures.none_read.turns in
          let last = ap (λ t. sum t.items) c.in_ok-give_expected.ensures.none_read.turns in
          let s = c.in_ok-read_on.ensures.soon (omega (arith, more, first, last)) in
          record {
            before = s.before.broadcast;
            collector = s.before.collector;
            stands = λ start on.
                let fed = c.in_ok-feed_all.ensures.ok start (in-first _ _ _ _ _ start c.args.spools.now _ _ _ c.requires.each c.requires.behind on) in
                (fed.0, s.moves start fed.0 fed.1, fed.2);
            further = more-then _ _ _ (more-unread _ _ c.in_ok-feed_all.ensures.none_read) s.further;
            few = subst (λ (n : ℕ). HasEnough (wanted c.args.pace (awaited s.before.collector.sequences) (turns_in s.before.broadcast.course - n)) s.before.broadcast.course → ⊥) first s.few;
            last = λ k. most-before _ k _ _ _ (s.last k) (none-unread k _ _ c.in_ok-give_expected.ensures.none_read);
          };
    }

pub returns-in_err-feed_all-clause-held : goal.returns-in_err-feed_all-clause-held
returns-in_err-feed_all-clause-held g c =
    let told = err_from_is_err_and c.from_residual.result c.from_residual.ensures.1 in
    rw (told.1, told.2) c.in_err-feed_all.ensures.held

pub returns-in_err-read_on-clause-held : goal.returns-in_err-read_on-clause-held
returns-in_err-read_on-clause-held g c =
    let told = err_from_is_err_and c.from_residual-in_err-read_on.result c.from_residual-in_err-read_on.ensures.1 in
    rw (told.1, told.2) c.in_err-read_on.ensures.held

pub returns-in_err-give_expected-clause-held : goal.returns-in_err-give_expected-clause-held
returns-in_err-give_expected-clause-held g c =
    let told = err_from_is_err_and c.from_residual-in_err-give_expected.result c.from_residual-in_err-give_expected.ensures.1 in
    rw (told.1, told.2) c.in_err-give_expected.ensures.held

pub returns-in_err-feed_all-clause-left : goal.returns-in_err-feed_all-clause-left
returns-in_err-feed_all-clause-left g c =
    let told = err_from_is_err_and c.from_residual.result c.from_residual.ensures.1 in
    let none = ap awaited c.requires.behind ∙ awaits-first 0 _ _ in
    rw (told.1, told.2) (inr (λ unheld. omega (arith, none, c.in_err-feed_all.ensures.short unheld)))

pub returns-in_err-read_on-clause-left : goal.returns-in_err-read_on-clause-left
returns-in_err-read_on-clause-left g c =
    let told = err_from_is_err_and c.from_residual-in_err-read_on.result c.from_residual-in_err-read_on.ensures.1 in
    let none = ap awaited c.requires.behind ∙ awaits-first 0 _ _ in
    rw (told.1, told.2) (elim c.in_err-read_on.ensures.left [
      | inl broken ↦ inl broken
      | inr short ↦ inr (λ unheld. omega (arith, none, c.in_ok-feed_all.ensures.due, short unheld))
    ])

pub returns-in_err-give_expected-clause-left : goal.returns-in_err-give_expected-clause-left
returns-in_err-give_expected-clause-left g c =
    let told = err_from_is_err_and c.from_residual-in_err-give_expected.result c.from_residual-in_err-give_expected.ensures.1 in
    let none = ap awaited c.requires.behind ∙ awaits-first 0 _ _ in
    rw (told.1, told.2) (inr (λ unheld. omega (arith, none, c.in_ok-feed_all.ensures.due, c.in_ok-read_on.ensures.due, c.in_err-give_expected.ensures.short unheld)))

pub returns-clause-enough : goal.returns-clause-enough
returns-clause-enough g c =
    let left = awaited c.read_on.new.self.collector.sequences in
    (left, reads-unread _ c.args.pace left _ _ _ _ c.in_ok-feed_all.ensures.none_read c.in_ok-give_expected.ensures.none_read c.in_ok-read_on.ensures.enough)

pub returns-in_err-feed_all-clause-ok : goal.returns-in_err-feed_all-clause-ok
returns-in_err-feed_all-clause-ok g c =
    let told = err_from_is_err_and c.from_residual.result c.from_residual.ensures.1 in
    rw told.1 tt

pub returns-in_err-feed_all-clause-enough : goal.returns-in_err-feed_all-clause-enough
returns-in_err-feed_all-clause-enough g c =
    let told = err_from_is_err_and c.from_residual.result c.from_residual.ensures.1 in
    rw told.1 tt

pub returns-in_err-read_on-clause-ok : goal.returns-in_err-read_on-clause-ok
returns-in_err-read_on-clause-ok g c =
    let told = err_from_is_err_and c.from_residual-in_err-read_on.result c.from_residual-in_err-read_on.ensures.1 in
    rw told.1 tt

pub returns-in_err-read_on-clause-enough : goal.returns-in_err-read_on-clause-enough
returns-in_err-read_on-clause-enough g c =
    let told = err_from_is_err_and c.from_residual-in_err-read_on.result c.from_residual-in_err-read_on.ensures.1 in
    rw told.1 tt

pub returns-in_err-give_expected-clause-ok : goal.returns-in_err-give_expected-clause-ok
returns-in_err-give_expected-clause-ok g c =
    let told = err_from_is_err_and c.from_residual-in_err-give_expected.result c.from_residual-in_err-give_expected.ensures.1 in
    rw told.1 tt

pub returns-in_err-give_expected-clause-enough : goal.returns-in_err-give_expected-clause-enough
returns-in_err-give_expected-clause-enough g c =
    let told = err_from_is_err_and c.from_residual-in_err-give_expected.result c.from_residual-in_err-give_expected.ensures.1 in
    rw told.1 tt
