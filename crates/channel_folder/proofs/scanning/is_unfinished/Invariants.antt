use Rattle.std.proofs.Common.{◌≡◌, take, false}
use Rattle.std.specs.List.{list_any}
use Rattle.channel_folder.specs.Scans.{is_unfinished_by}
use Rattle.channel_folder.proofs.scanning.is_unfinished.Given as goal

abbrev pub invariant-loop-one : goal.invariant-loop-one
invariant-loop-one l = list_any (is_unfinished_by l.file) (take l.one-index l.parts) ≡ false
