use Rattle.removal.proofs.Since.{err-since, ok-since, refused-since}
use Rattle.removal.proofs.tally.TalliedOutlet.put.Goals as goal

pub returns-clause-grown : goal.returns-clause-grown
returns-clause-grown g c =
    rw (← c.self.view_is) (ok-since g.F.Folder.made c.self.inside.outlet c.put-answer.new.self c.put-answer.ensures.stay c.put-answer.result _ c.put-answer.ensures.grown c.put-answer.ensures.ok c.put-answer.ensures.cleared)

pub returns-clause-kept : goal.returns-clause-kept
returns-clause-kept g c =
    rw (← c.self.view_is) (err-since g.F.Folder.made c.self.inside.outlet c.put-answer.new.self c.put-answer.ensures.stay c.put-answer.result c.put-answer.ensures.kept c.put-answer.ensures.failed)

pub returns-clause-refused : goal.returns-clause-refused
returns-clause-refused g c =
    rw (← c.self.view_is) (refused-since g.F.Folder.made c.self.inside.outlet c.put-answer.new.self c.put-answer.ensures.stay c.put-answer.result _ _ _ c.put-answer.ensures.refused)
