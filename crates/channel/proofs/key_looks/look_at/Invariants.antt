use Rattle.std.proofs.Common.{◌≡◌, ◌-◌, length}
use Rattle.limits.specs.declared.TheConstants.{MOST_KEYS}
use Rattle.channel.proofs.Looks.{AreMarked, OpenFrom}
use Rattle.channel.proofs.key_looks.look_at.Given as goal

abbrev pub invariant-loop-i : goal.invariant-loop-i
invariant-loop-i g l = record {
  size : length l.seen ≡ MOST_KEYS;
  marked : AreMarked l.rows l.seen (length l.rows - l.i);
  open_from : OpenFrom (g.F.FolderReader.gives l.folder) l.rendition l.rows (length l.rows - l.i);
}
