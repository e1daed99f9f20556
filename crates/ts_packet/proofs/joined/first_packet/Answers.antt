use Rattle.std.proofs.Common.{◌≡◌, ◌+◌, ◌-◌, ◌∙◌, length, sym, arith}
use Rattle.std.proofs.lemmas.List.{take-append-le}
use Rattle.std.proofs.Math.Seq.{take-append-add}
use Rattle.ts_packet.proofs.joined.first_packet.Goals as goal

pub returns-in-Some : goal.returns-in-Some
returns-in-Some c =
    let first = c.in-Some.ensures.cases in
    first.same ∙ sym (take-append-le 188 c.args.front.now c.args.back.now first.enough)

pub returns : goal.returns
returns c =
    let n : length c.args.front.now + (188 - length c.args.front.now) ≡ 188 = omega arith in
    let e = take-append-add c.args.front.now c.args.back.now (188 - length c.args.front.now) in
    let f = rw n at e in
    cc
