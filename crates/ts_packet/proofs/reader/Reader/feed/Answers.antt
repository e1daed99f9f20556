use Rattle.std.proofs.Common.{◌+◌, length, ap, arith, length-append}
use Rattle.ts_packet.proofs.Feeding.{Feeds, Keeps-piece, kept-long, on-err}
use Rattle.ts_packet.proofs.reader.Reader.feed.Goals as goal
use Rattle.ts_packet.proofs.reader.Reader.feed.Goals.{After-append}

feeds : (c : After-append) → Feeds c.self.inside.fed.items c.args.piece.now c.args.out.now.items c.scan_piece.new.out.items
    c.in_ok-left.left.locked c.in_ok-left.left.rest.items (c.self.inside.passed + c.in_ok-left.left.passed)
feeds c = Keeps-piece _ _ _ _ _ _ _ _ _ _ c.self.invariant.0 c.in_ok-left.ensures.scans c.in_ok-left.ensures.few

pub invariant_of-self : goal.invariant_of-self
invariant_of-self c = (
  rw c.append.ensures (feeds c).keeps,
  let e = ap length c.append.ensures in
      omega (arith, length-append c.self.inside.fed.items c.args.piece.now, e, ap length c.self.view_is),
)

pub returns-clause-packets : goal.returns-clause-packets
returns-clause-packets c = rw (c.append.ensures, ← c.self.view_is) (feeds c).grows

pub returns-in_err-left-clause-room : goal.returns-in_err-left-clause-room
returns-in_err-left-clause-room c =
    on-err c.from_residual.result (rw (kept-long _ _ _ _ _ c.self.invariant.0 c.self.view_is) c.in_err-left.ensures.scarce)
