use Rattle.std.proofs.Common.{◌∙◌, ◌++◌, [], ap, sym, arith, inl}
use Rattle.std.proofs.lemmas.Bool.{false≢true}
use Rattle.std.proofs.lemmas.List.{append-nil}
use Rattle.std.proofs.lemmas.Result.{err_from_is_err_and}
use Rattle.cutter.proofs.Streams.{closed-none, gives-at, stops-at}
use Rattle.cutter.proofs.Fronts.{front-given}
use Rattle.cutter.proofs.stream.cut_by.Goals as goal

pub loop-packet-init : goal.loop-packet-init
loop-packet-init c = record {
  cutter = ap (λ list. record c.args.cutter.now { list = list }) c.requires.fresh.0
      ∙ ap (λ ended. record c.args.cutter.now { list = []; ended = ended }) c.requires.fresh.1;
  room = omega arith;
  out = sym (ap (λ list. c.args.out.now.items ++ list) (closed-none c.args.cutter.now.rendition c.args.cutter.now.settings) ∙ append-nil _);
}

pub returns-in_err-plan-clause-fault : goal.returns-in_err-plan-clause-fault
returns-in_err-plan-clause-fault c =
    let told = err_from_is_err_and c.from_residual.result c.from_residual.ensures.1 in
    rw (told.1, told.2) (gives-at c.loop-packet.cutter c.args.cutter.now.rendition c.args.cutter.now.settings c.args.packets.now c.loop-packet.packet-index _ c.in_err-plan.field-0.0 c.args.out.now.items c.loop-packet.out.items
    c.loop-packet.invariant.cutter c.loop-packet.invariant.out c.loop-packet-test.true c.in_err-plan.ensures.fault)

pub returns-in_err-plan-clause-scarce : goal.returns-in_err-plan-clause-scarce
returns-in_err-plan-clause-scarce c =
    let told = err_from_is_err_and c.from_residual.result c.from_residual.ensures.1 in
    rw (told.1, told.2) (stops-at c.loop-packet.cutter c.args.cutter.now.rendition c.args.cutter.now.settings c.args.packets.now c.loop-packet.packet-index _ c.in_err-plan.field-0.0 c.args.out.now.items c.loop-packet.out.items
    c.loop-packet.invariant.cutter c.loop-packet.invariant.out c.loop-packet-test.true c.in_err-plan.ensures.scarce c.in_err-plan.ensures.memory c.in_err-plan.ensures.body)

pub returns-in_err-give-clause-scarce : goal.returns-in_err-give-clause-scarce
returns-in_err-give-clause-scarce c =
    let told = err_from_is_err_and c.from_residual-in_err-give.result c.from_residual-in_err-give.ensures.1 in
    rw told.1 (stops-at c.loop-packet.cutter c.args.cutter.now.rendition c.args.cutter.now.settings c.args.packets.now c.loop-packet.packet-index _ told.0 c.args.out.now.items _
    c.loop-packet.invariant.cutter (c.in_err-give.ensures.err ∙ c.loop-packet.invariant.out) c.loop-packet-test.true (λ none. c.in_ok-plan.ensures.sound)
    (λ none. inl (c.in_ok-plan.ensures.accepted (λ no_plan. false≢true (c.in_err-give.ensures.none no_plan))))
    (λ none. inl (c.in_ok-plan.ensures.next (λ no_plan. false≢true (c.in_err-give.ensures.none no_plan)))))

pub returns-in_err-plan-clause-kept : goal.returns-in_err-plan-clause-kept
returns-in_err-plan-clause-kept c =
    front-given _ c.args.cutter.now.rendition c.args.cutter.now.settings c.args.packets.now c.loop-packet.packet-index _ _ c.loop-packet.invariant.out

pub returns-in_err-give-clause-kept : goal.returns-in_err-give-clause-kept
returns-in_err-give-clause-kept c =
    front-given _ c.args.cutter.now.rendition c.args.cutter.now.settings c.args.packets.now c.loop-packet.packet-index _ _
    (c.in_err-give.ensures.err ∙ c.loop-packet.invariant.out)

pub returns-in_err-plan-2-clause-kept : goal.returns-in_err-plan-2-clause-kept
returns-in_err-plan-2-clause-kept c =
    front-given _ c.args.cutter.now.rendition c.args.cutter.now.settings c.args.packets.now c.loop-packet.packet-index _ _ c.loop-packet.invariant.out

pub returns-in_err-give-2-clause-kept : goal.returns-in_err-give-2-clause-kept
returns-in_err-give-2-clause-kept c =
    front-given _ c.args.cutter.now.rendition c.args.cutter.now.settings c.args.packets.now c.loop-packet.packet-index _ _
    (c.in_err-give-2.ensures.err ∙ c.loop-packet.invariant.out)
