use Rattle.item_io.proofs.Leaving.{each-loss-leaves, each-loss-breaks, leave-all-on-disk}
use Rattle.item_io.proofs.folder_laws.synced_items_are_left.Goals as goal

pub returns-clause-lost : goal.returns-clause-lost
returns-clause-lost c = each-loss-leaves

pub returns-clause-refused : goal.returns-clause-refused
returns-clause-refused c = each-loss-breaks

pub returns-clause-whole : goal.returns-clause-whole
returns-clause-whole c = leave-all-on-disk
