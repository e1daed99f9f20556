use Rattle.std.proofs.Common.{refl}
use Rattle.ingest.proofs.Ordered.{closed_of-none}
use Rattle.rounds.specs.Shown.{start_at}
use Rattle.rounds.proofs.Ending.{on-first}
use Rattle.rounds.proofs.run.fitted.set_out.Goals as goal

pub returns-clause-on : goal.returns-clause-on
returns-clause-on g c ladder workers fits begun =
    on-first _ _ _ _ _ (start_at c.args.endpoints) _ refl refl begun.turns fits.1 begun.lanes begun.each begun.playlists
    (λ k. closed_of-none k ladder.cut) begun.ended refl fits.2.2 fits.0 c.requires.least c.requires.most c.requires.room c.requires.failures
