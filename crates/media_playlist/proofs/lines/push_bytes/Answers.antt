use Rattle.playlist_text.proofs.Appending.{last-or-none}
use Rattle.media_playlist.proofs.lines.push_bytes.Goals as goal

pub returns-clause-part : goal.returns-clause-part
returns-clause-part c = last-or-none c.push_str.result _ _ _ _ c.push_str.ensures.bytes
