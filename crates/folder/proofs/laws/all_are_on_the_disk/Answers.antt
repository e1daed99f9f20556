use Rattle.folder.proofs.Losses.{all-on-disk, all-there-synced}
use Rattle.folder.proofs.laws.all_are_on_the_disk.Goals as goal

pub returns-clause-seen : goal.returns-clause-seen
returns-clause-seen c = all-there-synced

pub returns-clause-disk : goal.returns-clause-disk
returns-clause-disk c = all-on-disk
