use Rattle.std.proofs.Common.{rules, ◌∙◌}
use Rattle.channel_folder.proofs.Removing.{removed-more, removed-in-part}
use Rattle.channel_folder.proofs.unfinished.remove_each.Goals as goal

pub loop-name-preserved : goal.loop-name-preserved
loop-name-preserved g c = (
  removed-more (g.F.Folder.made c.args.folder.now) (g.F.Folder.made c.loop-name.folder) (g.F.Folder.made c.remove.new.self) c.args.names.now c.loop-name.name-index c.name-item.result
      c.loop-name-test.true c.name-item.is c.loop-name.invariant.0 (search rules),
  c.remove.ensures.pruned ∙ c.loop-name.invariant.1,
)

pub returns-in_default-clause-err : goal.returns-in_default-clause-err
returns-in_default-clause-err g c =
    removed-in-part (g.F.Folder.made c.args.folder.now) (g.F.Folder.made c.loop-name.folder) (g.F.Folder.made c.remove.new.self) c.args.names.now c.loop-name.name-index c.name-item.result
    c.loop-name-test.true c.name-item.is c.loop-name.invariant.0 (search rules)
