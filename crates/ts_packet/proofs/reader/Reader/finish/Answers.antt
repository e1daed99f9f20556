use Rattle.std.proofs.Common.{◌≡◌, ◌+◌, ◌<◌, length, drop, ap, arith, length-drop}
use Rattle.std.proofs.lemmas.List.{append-nil}
use Rattle.ts_packet.specs.Packets.{skipped}
use Rattle.ts_packet.proofs.Feeding.{Ends, Keeps-end, kept-long, on-err}
use Rattle.ts_packet.proofs.reader.Reader.finish.Goals as goal
use Rattle.ts_packet.proofs.reader.Reader.finish.Goals.{After-self-2}

ends : (c : After-self-2) → Ends c.self.inside.fed.items c.args.out.now.items c.scan-scanned.new.out.items
    (c.self.inside.passed + c.scan-scanned.result.passed + length (drop c.scan-scanned.result.at c.new-bytes.result))
ends c =
    let joined : c.new-bytes.result ≡ c.self.inside.rest.items = cc (append-nil c.self.inside.rest.items) in
    let scans = rw (c.in_ok-reserve.ensures.items) at c.scan-scanned.ensures.scans in
    let short : length (drop c.scan-scanned.result.at c.new-bytes.result) < 188 = rw length-drop c.scan-scanned.ensures.few in
    rw joined (Keeps-end _ _ _ _ _ _ _ _ _ c.self.invariant.0 (rw joined at scans) (rw joined at short))

pub returns-clause-packets : goal.returns-clause-packets
returns-clause-packets c = rw (← c.self.view_is) (ends c).grows

pub returns-clause-skipped : goal.returns-clause-skipped
returns-clause-skipped c =
    omega (arith, (ends c).skips, ap skipped c.self.view_is, length-drop c.scan-scanned.result.at c.new-bytes.result)

pub returns-in_err-reserve-clause-room : goal.returns-in_err-reserve-clause-room
returns-in_err-reserve-clause-room c =
    let joined : c.new-bytes.result ≡ c.self.inside.rest.items = cc (append-nil c.self.inside.rest.items) in
    on-err c.from_residual.result
    (omega (arith, c.in_err-reserve.ensures.full, c.len.ensures, ap length joined, kept-long _ _ _ _ _ c.self.invariant.0 c.self.view_is))
