use Rattle.std.proofs.Common.{arith}
use Rattle.std.proofs.lemmas.List.{length-take-le}
use Rattle.ts_packet.proofs.Ahead.{Scans-chunk, ahead-past, ahead-other}
use Rattle.ts_packet.proofs.scan.packets_ahead.Goals as goal
use Rattle.ts_packet.proofs.scan.packets_ahead.Goals.{then-loop-count-test+else-packets-count-eq71, else-loop-count-test}

pub loop-count-preserved : goal.loop-count-preserved
loop-count-preserved c = record {
  within = omega arith;
  scans = Scans-chunk c.args.bytes.now c.as_chunks.result.0.now c.loop-count.count c.as_chunks.ensures.front c.as_chunks.ensures.front_len (omega arith) (omega (arith, c.if-packets-count-eq71.true)) c.loop-count.invariant.scans;
}

pub returns-clause-all : goal.returns-clause-all
returns-clause-all c =
    let lent = length-take-le c.loop-count.count c.as_chunks.result.0.now c.loop-count.invariant.within in
    elim c.loop-count-test.branch [
      | then-loop-count-test+else-packets-count-eq71 w ↦
          ahead-other c.args.bytes.now c.as_chunks.result.0.now c.loop-count.count _ lent c.as_chunks.ensures.front
          (omega (arith, w.loop-count-test.true, c.as_chunks.ensures.front_len)) (λ sync. omega (arith, sync, w.if-packets-count-eq71.false))
      | else-loop-count-test w ↦
          ahead-past c.args.bytes.now c.loop-count.count _ lent (omega (arith, w.loop-count-test.false, c.as_chunks.ensures.front_len))
    ]
