use Rattle.std.proofs.Common.{length, sym, ap, ◌∙◌}
use Rattle.ts_packet.specs.Packets.{Rest, rest_of}
use Rattle.ts_packet.proofs.Feeding.{Keeps-rest}
use Rattle.ts_packet.proofs.reader.Reader.kept.Goals as goal

pub returns-clause-exact : goal.returns-clause-exact
returns-clause-exact c =
    c.len.ensures.value ∙ ap (λ (r : Rest). length r.bytes) (sym (Keeps-rest _ _ _ _ c.self.invariant.0) ∙ ap rest_of c.self.view_is)
