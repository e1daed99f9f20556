use Rattle.std.proofs.Common.{◌∙◌, length, ap, sym}
use Rattle.std.proofs.lemmas.List.{length-replicate}
use Rattle.ladder_items.specs.Items.{no_part}
use Rattle.ladder_items.specs.Weave.{none_of}
use Rattle.ladder_laws.proofs.Opening.{events-each}
use Rattle.ladder_laws.proofs.laws.each_rendition_has_a_part.Goals as goal

pub returns : goal.returns
returns c ladder parts items w =
    ap length (sym w.parts_are) ∙ (events-each (none_of ladder) w.events ∙ length-replicate (length ladder.renditions) no_part)
