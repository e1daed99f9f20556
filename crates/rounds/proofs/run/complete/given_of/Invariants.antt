use Rattle.std.proofs.Common.{◌≡◌, ◌*◌, ◌≤◌, ◌^◌, length, sum_by, take}
use Rattle.rounds.proofs.run.complete.given_of.Given as goal

abbrev pub invariant-loop-rendition : goal.invariant-loop-rendition
invariant-loop-rendition l = record {
  all : l.all ≡ sum_by (λ shown. length shown.rows) (take l.rendition-index l.playlists);
  bound : l.all ≤ l.rendition-index * 2 ^ 64;
}
