use Rattle.media_reading.proofs.Taking.{one-text}
use Rattle.media_reading.proofs.laws.a_text_lists_one_playlist.Goals as goal

pub returns : goal.returns
returns c = one-text
