use Rattle.std.proofs.Common.{◌≡◌, ◌<◌, ℕ, Option, Some}
use Rattle.std.specs.Prelude.{slice_get}
use Rattle.ladder_items.specs.Ladder.{RenditionValue}
use Rattle.resume.specs.Restoring.{RestoredValue}
use Rattle.channel.specs.Looking.{KeysOpen, rows_of}
use Rattle.channel.proofs.key_looks.look_at_keys.Given as goal

abbrev pub invariant-loop-r : goal.invariant-loop-r
invariant-loop-r g l = (r : ℕ) (rendition : RenditionValue) (one : Option RestoredValue) → r < l.r → slice_get l.renditions r ≡ Some rendition → slice_get l.found r ≡ Some one →
    KeysOpen (g.F.FolderReader.gives l.folder) rendition (rows_of one)
