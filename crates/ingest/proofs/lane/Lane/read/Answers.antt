use Rattle.std.proofs.Common.{subst}
use Rattle.ingest.proofs.Turning.{read-failed}
use Rattle.item_io.specs.Lending.{HasLent}
use Rattle.ingest.proofs.lane.Lane.read.Goals as goal

pub returns-in-Err-clause-ok : goal.returns-in-Err-clause-ok
returns-in-Err-clause-ok g c =
    let rested = c.lend.follows.lender-at-none in
    let failed = subst (HasLent g.S.Source.input _ c.args.source.now rested) c.in-Err.is c.lend.follows.holds-at-none in
    read-failed g.S.Source.input c.args.source.now rested c.args.self.now c.end.new.self c.end.ensures failed.1.kept failed.1.same_reads failed.1.failed
