use Rattle.std.proofs.Common.{subst}
use Rattle.std.proofs.lemmas.List.Elements.{All-from_get_or}
use Rattle.ghost_list.specs.Bytes.{AreBytes}
use Rattle.ladder_items.specs.Ladder.{RenditionValue, no_rendition}
use Rattle.ladder_laws.specs.Playlists.{HasByteNames}
use Rattle.ladder_laws.proofs.byte_names.names_are_bytes.Goals as goal

pub returns : goal.returns
returns c = subst HasByteNames c.settings.view_is (All-from_get_or (λ (rendition : RenditionValue). AreBytes rendition.name) _ no_rendition (rw c.deref.ensures.value at c.all_are_bytes.ensures))
