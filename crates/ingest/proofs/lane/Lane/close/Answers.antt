use Rattle.std.proofs.lemmas.Result.{err_from_is_err_and}
use Rattle.ingest.proofs.Parting.{spoiled-end}
use Rattle.ingest.proofs.Taking.{scarce-end}
use Rattle.ingest.proofs.lane.Lane.close.Goals as goal

pub returns-in_err-of_stream-in-Err-clause-scarce : goal.returns-in_err-of_stream-in-Err-clause-scarce
returns-in_err-of_stream-in-Err-clause-scarce c =
    let told = err_from_is_err_and c.from_residual.result c.from_residual.ensures.1 in
    rw told.1 (c.in-Err.ensures.scarce (scarce-end c.args.self.now.intake _ _ _ (c.no_stream_has_ended.ensures _ _ _) c.in-Err.ensures.fault c.in_err-of_stream-in-Err.ensures.scarce))

pub returns-in_err-of_stream-in-Err-clause-spoiled : goal.returns-in_err-of_stream-in-Err-clause-spoiled
returns-in_err-of_stream-in-Err-clause-spoiled c =
    let told = err_from_is_err_and c.from_residual.result c.from_residual.ensures.1 in
    rw told.1 (spoiled-end c.args.self.now.intake c.finish.new.self c.in-Err.ensures.ended c.in-Err.ensures.part)
