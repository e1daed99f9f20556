use Rattle.std.proofs.Common.{[], subst}
use Rattle.std.proofs.lemmas.List.{append-nil}
use Rattle.ghost_list.specs.Lists.{IsBeginning}
use Rattle.ts_packet.specs.Packets.{packets, decided}
use Rattle.ingest.proofs.intake.decided_begin.Goals as goal

pub returns-clause-begin : goal.returns-clause-begin
returns-clause-begin c stream =
    subst (λ s. IsBeginning (decided stream) (packets s)) (append-nil stream) ((c.decided_is_the_longest.ensures.is stream).always [])

pub returns-clause-always : goal.returns-clause-always
returns-clause-always c stream more = (c.decided_is_the_longest.ensures.is stream).always more
