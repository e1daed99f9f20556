use Rattle.std.proofs.Common.{subst, sym}
use Rattle.std.proofs.lemmas.Option.{slice_get-get_or}
use Rattle.std.specs.Prelude.{slice_index_or}
use Rattle.flow_core.specs.Gatherings.{Gathering, no_sequence}
use Rattle.flow_core.specs.Sequences.{KnowsPlan}
use Rattle.flow_core.proofs.Gathering.{gathering-collects}
use Rattle.flow_core.proofs.collector.Collector.collect_known.Goals as goal

pub invariant_of-self-2 : goal.invariant_of-self-2
invariant_of-self-2 c =
    let g : Gathering = record { most = c.self.inside.most; sequences = c.self.inside.sequences.items } in
    let after = gathering-collects g c.args.segment.plan.rendition c.args.segment c.self.invariant.0 c.in_ok-collected.ensures.inside in
    rw (c.in_ok-collected.ensures.ok, c.self.invariant.1) after

pub collect_known_in-requires-clause-own : goal.collect_known_in-requires-clause-own
collect_known_in-requires-clause-own c below =
    c.self.invariant.0.placed c.args.segment.plan.rendition _ (slice_get-get_or c.self.inside.sequences.items c.args.segment.plan.rendition no_sequence below)

pub collect_known_in-requires-clause-known : goal.collect_known_in-requires-clause-known
collect_known_in-requires-clause-known c =
    subst (λ (v : Gathering). KnowsPlan (slice_index_or v.sequences c.args.segment.plan.rendition no_sequence) c.args.segment.plan) (sym c.self.view_is) c.requires.known
