use Rattle.std.proofs.Common.{refl, ◌≡◌, ◌^◌, [], rules}
use Rattle.keeping.proofs.Left.{held-first, held-of}
use Rattle.removal.specs.Removing.{new_keeping}
use Rattle.removal.proofs.Clearing.{all-cleared}
use Rattle.removal.proofs.Kept.{leaves-kept, none-listed}
use Rattle.removal.proofs.Since.{breach-plain, fault-plain, ok-plain, stay-then}
use Rattle.removal.proofs.removing.pack_and_remove.Goals as goal

pub returns-clause-killed : goal.returns-clause-killed
returns-clause-killed g c =
    let start : c.over-outlet.result ≡ new_keeping c.args.into c.args.renditions.items = search rules in
    let x = new_keeping c.args.into c.args.renditions.items in
    let y = c.pack-sources.result.outlet in
    let old = c.args.publisher.list in
    let new = c.pack-sources.result.publisher.list in
    let sources = c.pack-sources.result.sources.items in
    rw c.into_outlet.ensures.is (leaves-kept g.S.Source.input g.F.Folder.made c.args.setup.now.settings.now (2 ^ 40) c.args.sources.items sources c.args.into c.args.renditions.items y
    c.requires.fresh c.requires.untold c.args.setup.now.pool.workers old new _ _ c.pack-sources.result.answer
    (ok-plain g.S.Source.input g.F.Folder.made c.args.setup.now.settings.now (2 ^ 40) c.args.sources.items sources x y c.args.setup.now.pool.workers old new c.pack-sources.result.answer (rw start at c.pack-sources.ensures.ok))
    c.pack-sources.ensures.fits
    (breach-plain g.S.Source.input g.F.Folder.made c.args.setup.now.settings.now (2 ^ 40) c.args.sources.items sources x y c.args.setup.now.pool.workers old new c.pack-sources.result.answer (rw start at c.pack-sources.ensures.breach))
    (fault-plain g.S.Source.input g.F.Folder.made c.args.setup.now.settings.now (2 ^ 40) c.args.sources.items sources x y c.args.setup.now.pool.workers old new _ _ c.pack-sources.result.answer (rw start at c.pack-sources.ensures.fault)))

pub returns-clause-unlisted : goal.returns-clause-unlisted
returns-clause-unlisted g c =
    let start : c.over-outlet.result ≡ new_keeping c.args.into c.args.renditions.items = search rules in
    let x = new_keeping c.args.into c.args.renditions.items in
    let y = c.pack-sources.result.outlet in
    let old = c.args.publisher.list in
    let new = c.pack-sources.result.publisher.list in
    let sources = c.pack-sources.result.sources.items in
    rw c.into_outlet.ensures.is (none-listed g.S.Source.input g.F.Folder.made c.args.setup.now.settings.now (2 ^ 40) c.args.sources.items sources c.args.into c.args.renditions.items y
    c.requires.fresh c.requires.untold c.args.setup.now.pool.workers old new c.pack-sources.result.answer
    (ok-plain g.S.Source.input g.F.Folder.made c.args.setup.now.settings.now (2 ^ 40) c.args.sources.items sources x y c.args.setup.now.pool.workers old new c.pack-sources.result.answer (rw start at c.pack-sources.ensures.ok))
    c.pack-sources.ensures.fits)

pub returns-clause-ok : goal.returns-clause-ok
returns-clause-ok g c =
    let start : c.over-outlet.result ≡ new_keeping c.args.into c.args.renditions.items = search rules in
    rw c.into_outlet.ensures.is (ok-plain g.S.Source.input g.F.Folder.made c.args.setup.now.settings.now (2 ^ 40) c.args.sources.items c.pack-sources.result.sources.items
    (new_keeping c.args.into c.args.renditions.items) c.pack-sources.result.outlet c.args.setup.now.pool.workers c.args.publisher.list c.pack-sources.result.publisher.list c.pack-sources.result.answer
    (rw start at c.pack-sources.ensures.ok))

pub returns-clause-fault : goal.returns-clause-fault
returns-clause-fault g c =
    let start : c.over-outlet.result ≡ new_keeping c.args.into c.args.renditions.items = search rules in
    rw c.into_outlet.ensures.is (fault-plain g.S.Source.input g.F.Folder.made c.args.setup.now.settings.now (2 ^ 40) c.args.sources.items c.pack-sources.result.sources.items
    (new_keeping c.args.into c.args.renditions.items) c.pack-sources.result.outlet c.args.setup.now.pool.workers c.args.publisher.list c.pack-sources.result.publisher.list _ _ c.pack-sources.result.answer
    (rw start at c.pack-sources.ensures.fault))

pub returns-clause-breach : goal.returns-clause-breach
returns-clause-breach g c =
    let start : c.over-outlet.result ≡ new_keeping c.args.into c.args.renditions.items = search rules in
    rw c.into_outlet.ensures.is (breach-plain g.S.Source.input g.F.Folder.made c.args.setup.now.settings.now (2 ^ 40) c.args.sources.items c.pack-sources.result.sources.items
    (new_keeping c.args.into c.args.renditions.items) c.pack-sources.result.outlet c.args.setup.now.pool.workers c.args.publisher.list c.pack-sources.result.publisher.list c.pack-sources.result.answer
    (rw start at c.pack-sources.ensures.breach))

pub returns-clause-told : goal.returns-clause-told
returns-clause-told g c = c.pack-sources.ensures.told

pub returns-clause-same : goal.returns-clause-same
returns-clause-same g c =
    let start : c.over-outlet.result ≡ new_keeping c.args.into c.args.renditions.items = search rules in
    rw c.into_outlet.ensures.is (stay-then g.S.Source.input g.F.Folder.made c.args.setup.now.settings.now (2 ^ 40) c.args.sources.items c.pack-sources.result.sources.items
    (new_keeping c.args.into c.args.renditions.items) c.pack-sources.result.outlet (held-of c.args.into.syncs [])
    (held-first c.args.into.syncs (g.F.Folder.made c.args.into.folder) [] c.args.renditions.items c.requires.fresh refl c.requires.untold)
    c.args.setup.now.pool.workers c.args.publisher.list c.pack-sources.result.publisher.list _ _ c.pack-sources.result.answer
    (rw start at c.pack-sources.ensures.ok) (rw start at c.pack-sources.ensures.fault))

pub returns-clause-cleared : goal.returns-clause-cleared
returns-clause-cleared g c =
    let start : c.over-outlet.result ≡ new_keeping c.args.into c.args.renditions.items = search rules in
    rw c.into_outlet.ensures.is (all-cleared g.S.Source.input g.F.Folder.made c.args.setup.now.settings.now (2 ^ 40) c.args.sources.items c.pack-sources.result.sources.items
    (new_keeping c.args.into c.args.renditions.items) c.pack-sources.result.outlet (held-of c.args.into.syncs [])
    (held-first c.args.into.syncs (g.F.Folder.made c.args.into.folder) [] c.args.renditions.items c.requires.fresh refl c.requires.untold) refl
    c.args.setup.now.pool.workers c.args.publisher.list c.pack-sources.result.publisher.list c.pack-sources.result.answer
    (rw start at c.pack-sources.ensures.ok) c.pack-sources.ensures.fits)
