use Rattle.std.proofs.Common.{ℕ, ◌<◌, get_or}
use Rattle.ghost_list.specs.Bytes.{AreBytes}
use Rattle.ladder_items.specs.Ladder.{no_rendition}
use Rattle.ladder_laws.proofs.byte_names.all_are_bytes.Given as goal

abbrev pub invariant-loop-rendition : goal.invariant-loop-rendition
invariant-loop-rendition l = (r : ℕ) → r < l.rendition-index → AreBytes (get_or l.renditions r no_rendition).name
