use Rattle.std.proofs.Common.{◌≡◌, take}
use Rattle.rounds.specs.Showing.{counts_of}
use Rattle.rounds.proofs.giving.snapshots.counts.Given as goal

abbrev pub invariant-loop-rendition : goal.invariant-loop-rendition
invariant-loop-rendition l = l.counts.items ≡ counts_of (take l.rendition-index l.playlists)
