use Rattle.std.proofs.lemmas.Result.{err_from_is_err_and}
use Rattle.ingest.proofs.Parting.{spoiled-piece}
use Rattle.ingest.proofs.Taking.{scarce-piece}
use Rattle.ingest.proofs.lane.Lane.feed.Goals as goal

pub returns-in_err-of_stream-clause-scarce : goal.returns-in_err-of_stream-clause-scarce
returns-in_err-of_stream-clause-scarce c =
    let told = err_from_is_err_and c.from_residual.result c.from_residual.ensures.1 in
    rw told.1 (c.in-Err.ensures.scarce (scarce-piece c.args.self.now.intake _ _ _ _ (c.no_stream_has_ended.ensures _ _ _) c.in-Err.ensures.fault c.in_err-of_stream.ensures.scarce))

pub returns-in_err-of_stream-clause-spoiled : goal.returns-in_err-of_stream-clause-spoiled
returns-in_err-of_stream-clause-spoiled c =
    let told = err_from_is_err_and c.from_residual.result c.from_residual.ensures.1 in
    rw told.1 (spoiled-piece c.args.self.now.intake c.take.new.self c.args.piece.now c.in-Err.ensures.err c.in-Err.ensures.part)
