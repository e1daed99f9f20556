use Rattle.std.proofs.Common.{◌≡◌, drop}
use Rattle.master_playlist.specs.Faults.{has_same_names}
use Rattle.master_playlist.proofs.fault.has_same_names.Given as goal

abbrev pub invariant-loop-i : goal.invariant-loop-i
invariant-loop-i l = has_same_names (drop (l.i) l.variants) ≡ has_same_names l.variants
