use Rattle.std.proofs.Common.{◌≡◌, ◌++◌, take}
use Rattle.ladder_items.proofs.earlier.push_rows.Given as goal

abbrev pub invariant-loop-row : goal.invariant-loop-row
invariant-loop-row l = l.playlists ≡ record l.fn.playlists { rows = l.fn.playlists.rows ++ take l.row-index l.rows }
