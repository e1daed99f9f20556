use Rattle.std.proofs.Common.{◌≡◌, None, Some, refl, ap, sym, ◌∙◌}
use Rattle.std.specs.Prelude.{option_copied}
use Rattle.cutter.specs.Stream.{as_packet}
use Rattle.cutter.proofs.Facts.{packet_is}
use Rattle.cutter.proofs.following.watch_packet.Goals as goal

pub returns-clause-none : goal.returns-clause-none
returns-clause-none c = λ is.
    let some : as_packet c.args.arrival.now ≡ Some c.in-Some.packet.now =
    ap as_packet (sym c.arrival.view_is) ∙ sym c.arrival.invariant ∙ sym c.as_ref.ensures.value ∙ ap option_copied c.in-Some.is in
    let none : as_packet c.args.arrival.now ≡ None = rw is refl in
    absurd (cc)

pub returns-clause-tables : goal.returns-clause-tables
returns-clause-tables c =
    let some : as_packet c.args.arrival.now ≡ Some c.in-Some.packet.now =
    ap as_packet (sym c.arrival.view_is) ∙ sym c.arrival.invariant ∙ sym c.as_ref.ensures.value ∙ ap option_copied c.in-Some.is in
    rw (packet_is c.args.arrival.now c.in-Some.packet.now some) c.push.ensures.idle
