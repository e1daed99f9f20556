use Rattle.std.proofs.Common.{◌+◌, ◌*◌, ◌∙◌, length, sym, ap, arith, length-append, length-drop}
use Rattle.std.proofs.lemmas.List.{take_rest}
use Rattle.ts_packet.specs.Packets.{Rest, rest_of}
use Rattle.ts_packet.proofs.Feeding.{Keeps-rest, kept-long, on-err}
use Rattle.ts_packet.proofs.Ahead.{FeedsLending, Keeps-lending}
use Rattle.ts_packet.proofs.reader.Reader.feed_lending.Goals as goal
use Rattle.ts_packet.proofs.reader.Reader.feed_lending.Goals.{After-append}

feeds : (c : After-append) → FeedsLending c.self.inside.fed.items c.args.piece.now c.ahead-lent.result.now c.args.out.now.items c.scan_piece.new.out.items
    c.in_ok-left.left.locked c.in_ok-left.left.rest.items (c.self.inside.passed + c.in_ok-left.left.passed)
feeds c = Keeps-lending _ _ _ _ _ _ _ _ _ _ _ _ c.self.invariant.0 c.ahead-lent.ensures.scans (rw (take_rest c.args.piece.now (188 * length c.ahead-lent.result.now)) at c.in_ok-left.ensures.scans) c.in_ok-left.ensures.few

pub invariant_of-self : goal.invariant_of-self
invariant_of-self c = (
  rw c.append.ensures (feeds c).keeps,
  let e = ap length c.append.ensures in
      omega (arith, length-append c.self.inside.fed.items c.args.piece.now, e, ap length c.self.view_is),
)

pub returns-clause-packets : goal.returns-clause-packets
returns-clause-packets c = rw (c.append.ensures, ← c.self.view_is) (feeds c).grows

pub returns-in_err-left-clause-room : goal.returns-in_err-left-clause-room
returns-in_err-left-clause-room c =
    let scarce = rw (take_rest c.args.piece.now (188 * length c.ahead-lent.result.now)) at c.in_err-left.ensures.scarce in
    on-err c.from_residual.result
    (omega (arith, scarce, kept-long _ _ _ _ _ c.self.invariant.0 c.self.view_is, length-drop (188 * length c.ahead-lent.result.now) c.args.piece.now))

pub returns-clause-lent : goal.returns-clause-lent
returns-clause-lent c = λ ended.
    let same = sym (Keeps-rest _ _ _ _ c.self.invariant.0) ∙ ap rest_of c.self.view_is ∙ ended in
    c.ahead-lent.ensures.all (ap (λ (r : Rest). r.locked) same) (ap (λ (r : Rest). r.bytes) same)

pub returns-in_err-left-clause-behind : goal.returns-in_err-left-clause-behind
returns-in_err-left-clause-behind c =
    let scarce = rw (take_rest c.args.piece.now (188 * length c.ahead-lent.result.now)) at c.in_err-left.ensures.scarce in
    on-err c.from_residual.result (
      c.ahead-lent.result.now,
      λ ended.
          let same = sym (Keeps-rest _ _ _ _ c.self.invariant.0) ∙ ap rest_of c.self.view_is ∙ ended in
          c.ahead-lent.ensures.all (ap (λ (r : Rest). r.locked) same) (ap (λ (r : Rest). r.bytes) same),
      omega (arith, scarce, kept-long _ _ _ _ _ c.self.invariant.0 c.self.view_is, length-drop (188 * length c.ahead-lent.result.now) c.args.piece.now),
    )
