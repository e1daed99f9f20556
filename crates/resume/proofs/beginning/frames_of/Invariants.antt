use Rattle.std.proofs.Common.{◌≡◌, ◌≤◌, ◌*◌, ◌^◌, take}
use Rattle.media_playlist.specs.Listed.{frame_count}
use Rattle.resume.proofs.beginning.frames_of.Given as goal

abbrev pub invariant-loop-row : goal.invariant-loop-row
invariant-loop-row l = record {
  so_far : l.frames ≡ frame_count (take l.row-index l.rows);
  within : l.frames ≤ l.row-index * 2 ^ 63;
}
