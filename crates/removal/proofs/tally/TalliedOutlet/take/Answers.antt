use Rattle.keeping.proofs.Telling.{same-all}
use Rattle.removal.proofs.Since.{taken-since, untaken-since}
use Rattle.removal.proofs.tally.TalliedOutlet.take.Goals as goal

pub returns-clause-taken : goal.returns-clause-taken
returns-clause-taken g c = rw (← c.self.view_is)
    (λ took. taken-since g.F.Folder.made c.self.inside.outlet c.take-took.new.self (same-all _ _ c.take-took.ensures.renditions) _ (c.take-took.ensures.taken took) c.take-took.ensures.failures (c.take-took.ensures.cleared took))

pub returns-clause-kept : goal.returns-clause-kept
returns-clause-kept g c = rw (← c.self.view_is)
    (λ left. untaken-since g.F.Folder.made c.self.inside.outlet c.take-took.new.self (same-all _ _ c.take-took.ensures.renditions) (c.take-took.ensures.kept left) c.take-took.ensures.failures c.take-took.ensures.renditions c.take-took.ensures.missed)
