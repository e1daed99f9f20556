use Rattle.media_playlist.proofs.Saturating.{sliding-short, whole-short}
use Rattle.media_playlist.proofs.laws.earlier_playlists_are_short.Goals as goal

pub returns-clause-sliding : goal.returns-clause-sliding
returns-clause-sliding c = sliding-short

pub returns-clause-whole : goal.returns-clause-whole
returns-clause-whole c = whole-short
