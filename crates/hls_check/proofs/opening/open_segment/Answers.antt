use Rattle.std.proofs.Common.{sym}
use Rattle.hls_check.proofs.Openings.{Seals-same}
use Rattle.hls_check.proofs.opening.open_segment.Goals as goal

pub returns-in-Ok-clause-found : goal.returns-in-Ok-clause-found
returns-in-Ok-clause-found c = record {
  seals = Seals-same _ _ _ _ _ c.new.ensures c.in-Ok.ensures.ok;
  only = λ other seals. c.in-Ok.ensures.opens other (Seals-same _ _ _ _ _ (sym c.new.ensures) seals);
}
