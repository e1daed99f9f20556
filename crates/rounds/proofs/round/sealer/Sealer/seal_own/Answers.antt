use Rattle.std.proofs.Common.{rules, ◌≡◌, ◌∙◌, List, get_or, ap, arith, subst, sym}
use Rattle.cutter.specs.Lent.{lent}
use Rattle.segment_job.specs.Segments.{SealedSegment, sealed_segment}
use Rattle.flow_core.specs.Gatherings.{sequence_at}
use Rattle.flow_core.specs.Sequences.{IsRight}
use Rattle.ladder_items.specs.Ladder.{Ladder, RenditionValue, no_rendition, rendition_at}
use Rattle.rounds.specs.Collected.{Collects}
use Rattle.rounds.proofs.Collecting.{own-right, own-stands}
use Rattle.rounds.proofs.round.sealer.Sealer.seal_own.Goals as goal

pub returns-clause-ok : goal.returns-clause-ok
returns-clause-ok g c =
    let plan = lent c.args.plan in
    let old = c.args.collector.now in
    let renditions = c.deref.ensures.value ∙ ap (λ (l : Ladder). l.renditions) c.settings.view_is in
    let keys : c.rendition.inside.keys ≡ (rendition_at c.args.settings.now plan.rendition).keys =
    ap (λ (x : RenditionValue). x.keys)
    (c.rendition.view_is ∙ (c.in-Some.ensures.lookup.3.1 no_rendition ∙ ap (λ (l : List RenditionValue). get_or l plan.rendition no_rendition) renditions)) in
    let sealed : c.in_ok-sealed.sealed ≡ sealed_segment c.rendition.inside.keys plan = search rules in
    record {
      passed = search rules;
      fewer = λ lacks.
          let right = own-right c.args.settings.now old plan c.rendition.inside.keys c.requires.keys lacks keys in
          let got = c.collect.ensures.sure (subst (λ (s : SealedSegment). IsRight (sequence_at old s.plan.rendition) s) (sym sealed) right) in
          omega (arith, c.collect.ensures.fewer got);
      has = own-stands c.args.settings.now _ _ plan c.rendition.inside.keys c.requires.keys keys
          (subst (λ (s : SealedSegment). Collects old s c.collect.new.collector) sealed c.collect.ensures.collects);
    }
