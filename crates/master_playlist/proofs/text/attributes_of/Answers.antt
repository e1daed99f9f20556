use Rattle.master_playlist.proofs.Texts.{plain-four}
use Rattle.master_playlist.proofs.text.attributes_of.Goals as goal

pub returns-clause-plain : goal.returns-clause-plain
returns-clause-plain c = plain-four _ _ _ _ _ _ _ _ _
