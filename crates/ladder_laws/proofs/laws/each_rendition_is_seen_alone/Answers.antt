use Rattle.ladder_laws.proofs.Alone.{seen}
use Rattle.ladder_laws.proofs.laws.each_rendition_is_seen_alone.Goals as goal

pub returns : goal.returns
returns c ladder parts items r w = seen ladder parts items r w
