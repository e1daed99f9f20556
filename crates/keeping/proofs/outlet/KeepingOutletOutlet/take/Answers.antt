use Rattle.std.proofs.Common.{refl, sym}
use Rattle.keeping.proofs.Clearing.{cleared-taken}
use Rattle.keeping.proofs.Putting.{taken, untaken}
use Rattle.keeping.proofs.outlet.KeepingOutletOutlet.take.Goals as goal

pub returns-clause-taken : goal.returns-clause-taken
returns-clause-taken g c = rw (sym c.self.view_is)
    (λ took. taken g.F.Folder.made (record { files = c.self.inside.files; renditions = c.self.inside.renditions.items; lags = c.self.inside.lags; missed = c.self.inside.missed.items }) (record { files = c.take-took.new.self; renditions = c.self.inside.renditions.items; lags = c.if-self.self; missed = c.self.inside.missed.items })
    (record { rendition = c.args.rendition; number = c.args.number; name = c.args.name.now; bytes = c.args.file.bytes }) refl (c.take-took.ensures.named took) (c.take-took.ensures.taken took) c.take-took.ensures.failures c.take-took.ensures.syncs c.take-took.ensures.pruned)

pub returns-clause-kept : goal.returns-clause-kept
returns-clause-kept g c = rw (sym c.self.view_is)
    (λ left. untaken g.F.Folder.made (record { files = c.self.inside.files; renditions = c.self.inside.renditions.items; lags = c.self.inside.lags; missed = c.self.inside.missed.items }) (record { files = c.take-took.new.self; renditions = c.self.inside.renditions.items; lags = c.if-self.self; missed = c.self.inside.missed.items })
    refl (c.take-took.ensures.kept left) c.take-took.ensures.failures c.take-took.ensures.syncs c.take-took.ensures.pruned)

pub returns-clause-cleared : goal.returns-clause-cleared
returns-clause-cleared g c = rw (sym c.self.view_is)
    (λ took items cleared. cleared-taken (record { rendition = c.args.rendition; number = c.args.number; name = c.args.name.now; bytes = c.args.file.bytes }) items
    c.self.inside.renditions.items c.self.inside.renditions.items c.self.inside.missed.items c.self.inside.missed.items refl refl cleared)
