-- What is kept of the lines that were read.
use Rattle.resume.specs.declared.picking.Picked.{Picked}
use Rattle.resume.specs.Picking.{Picks}

abbrev pub picks_of : Picked → Picks
picks_of p = record { first = p.first; frames = p.frames.items; starts = p.starts.items; micros = p.micros; uri_next = p.uri_next }
