use Rattle.std.proofs.lemmas.Result.{err_from_is_err_and}
use Rattle.std.proofs.Common.{◌++◌, take, ap}
use Rattle.cutter.specs.Spooled.{Spooling}
use Rattle.ingest.proofs.Growing.{stops-at, wants-at, more-of, pushed-more, grows-by}
use Rattle.ingest.proofs.Parting.{part-at}
use Rattle.ingest.proofs.intake.push_all.Goals as goal

pub returns-in_err-push-clause-fault : goal.returns-in_err-push-clause-fault
returns-in_err-push-clause-fault c =
    let told = err_from_is_err_and c.from_residual.result c.from_residual.ensures.1 in
    rw (told.1, told.2, ap (λ (v : Spooling). v.filled) c.in_err-push.ensures.err) (stops-at c.loop-packet.cutter c.args.cutter.now c.args.packets.now c.loop-packet.packet-index _ c.in_err-push.field-0.0
    c.loop-packet.invariant.cutter c.requires.going c.loop-packet-test.true c.loop-packet.invariant.plans c.in_err-push.ensures.fault)

pub returns-in_err-push-clause-scarce : goal.returns-in_err-push-clause-scarce
returns-in_err-push-clause-scarce c =
    let told = err_from_is_err_and c.from_residual.result c.from_residual.ensures.1 in
    rw (told.1, told.2) (λ none. wants-at c.loop-packet.cutter c.args.cutter.now c.args.packets.now c.loop-packet.packet-index _
    c.loop-packet.invariant.cutter c.loop-packet-test.true (c.in_err-push.ensures.scarce none) (c.in_err-push.ensures.memory none))

pub loop-packet-preserved : goal.loop-packet-preserved
loop-packet-preserved c =
    let i = c.loop-packet.packet-index in record {
      cutter = pushed-more c.loop-packet.cutter c.push.new.self c.args.cutter.now c.args.packets.now i _ c.loop-packet-test.true c.loop-packet.invariant.cutter c.in_ok-push.ensures.pushed;
      plans = grows-by c.loop-packet.cutter c.push.new.self c.args.cutter.now (c.args.cutter.now.list ++ take i c.args.packets.now) _ _ c.in_ok-push.field-0
          c.loop-packet.invariant.cutter (more-of c.args.cutter.now.list c.args.packets.now i _ c.loop-packet-test.true) c.loop-packet.invariant.plans c.in_ok-push.ensures.closes;
    }

pub returns-in_err-push-clause-part : goal.returns-in_err-push-clause-part
returns-in_err-push-clause-part c =
    let told = err_from_is_err_and c.from_residual.result c.from_residual.ensures.1 in
    rw told.1 (part-at c.loop-packet.cutter c.args.cutter.now c.args.packets.now c.loop-packet.packet-index c.push.new.self.filled c.loop-packet.invariant.plans
    (ap (λ (v : Spooling). v.filled) c.in_err-push.ensures.err))
