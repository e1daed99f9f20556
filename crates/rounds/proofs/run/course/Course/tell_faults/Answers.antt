use Rattle.std.proofs.Common.{◌≡◌, ◌∙◌, ◌<◌, refl, subst, arith, rules, length}
use Rattle.std.proofs.lemmas.Option.{slice_get_read, slice_get_within}
use Rattle.rounds.specs.Heralds.{TellsOne}
use Rattle.rounds.proofs.Telling.{tells-more, tells-none, tells-past}
use Rattle.rounds.proofs.run.course.Course.tell_faults.Goals as goal

pub loop-r-init : goal.loop-r-init
loop-r-init g c = record { tells = tells-none _ _ _; herald = refl }

pub loop-r-preserved : goal.loop-r-preserved
loop-r-preserved g c =
    let within : c.loop-r.r < length c.args.self.now.lanes.items = search rules in
    let at = slice_get_read c.args.self.now.lanes.items _ c.loop-r.r c.index.result.now refl within c.index.ensures in
    record {
      tells = tells-more _ c.loop-r.r _ _ _ _ _ c.index.result.now at refl c.loop-r.invariant.tells
          (subst (λ h. TellsOne (g.H.Herald.was_told h.now) c.loop-r.telling.told c.loop-r.r c.index.result.now.stop c.tell.new.self.told) c.loop-r.invariant.herald c.tell.ensures.ok);
      herald = c.tell.ensures.herald ∙ c.loop-r.invariant.herald;
    }

pub returns-clause-ok : goal.returns-clause-ok
returns-clause-ok g c =
    let size : c.len.result ≡ length c.args.self.now.lanes.items = search rules in
    tells-past _ c.loop-r.r _ _ _ c.args.self.now.lanes.items
    (λ k lane at small. omega (arith, small, size, slice_get_within c.args.self.now.lanes.items k lane at, c.min-r-end.ensures, c.loop-r-test.false))
    (omega (arith, c.min-r-end.ensures, c.loop-r.auto.r-end)) c.loop-r.invariant.tells
