use Rattle.std.proofs.Common.{◌^◌}
use Rattle.packing.proofs.FolderRuns.{leaves-playable, left-of, there-of}
use Rattle.packing.proofs.folder_packing.pack_into_folder.Goals as goal

pub returns-clause-ok : goal.returns-clause-ok
returns-clause-ok g c = rw c.outlet_of-outlet.ensures at c.pack.ensures.ok

pub returns-clause-fault : goal.returns-clause-fault
returns-clause-fault g c = rw c.outlet_of-outlet.ensures at c.pack.ensures.fault

pub returns-clause-breach : goal.returns-clause-breach
returns-clause-breach g c = rw c.outlet_of-outlet.ensures at c.pack.ensures.breach

pub returns-clause-there : goal.returns-clause-there
returns-clause-there g c =
    there-of g.S.Source.input g.F.Folder.made c.args.setup.now.settings.now (2 ^ 40) c.args.sources.items c.pack.result.sources.items c.args.into c.pack.result.outlet c.requires.fresh
    c.args.setup.now.pool.workers c.args.publisher.list c.pack.result.publisher.list c.pack.result.answer
    (rw c.outlet_of-outlet.ensures at c.pack.ensures.ok) c.pack.ensures.fits

pub returns-clause-left : goal.returns-clause-left
returns-clause-left g c =
    left-of g.S.Source.input g.F.Folder.made c.args.setup.now.settings.now (2 ^ 40) c.args.sources.items c.pack.result.sources.items c.args.into c.pack.result.outlet c.requires.fresh
    c.args.setup.now.pool.workers c.args.publisher.list c.pack.result.publisher.list _ _ c.pack.result.answer
    (rw c.outlet_of-outlet.ensures at c.pack.ensures.breach) (rw c.outlet_of-outlet.ensures at c.pack.ensures.fault)

pub returns-clause-playable : goal.returns-clause-playable
returns-clause-playable g c =
    leaves-playable g.S.Source.input g.F.Folder.made c.args.setup.now.settings.now (2 ^ 40) c.args.sources.items c.pack.result.sources.items c.args.into c.pack.result.outlet c.requires.fresh
    c.names_are_bytes.ensures c.pack.result.answer (returns-clause-there g c) (returns-clause-left g c)

pub returns-clause-killed : goal.returns-clause-killed
returns-clause-killed g c = (returns-clause-playable g c).leaves
