use Rattle.media_playlist.proofs.Room.{plain-two}
use Rattle.media_playlist.proofs.media.push_key_attributes.Goals as goal

pub returns-clause-full : goal.returns-clause-full
returns-clause-full c = c.push_attribute_list.ensures.full (plain-two _ _ _ _)
