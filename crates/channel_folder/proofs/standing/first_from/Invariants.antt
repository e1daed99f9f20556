use Rattle.std.proofs.Common.{◌<◌, All, take}
use Rattle.channel_folder.proofs.standing.first_from.Given as goal

abbrev pub invariant-loop-n : goal.invariant-loop-n
invariant-loop-n l = All (λ n. n < l.next) (take l.n-index l.numbers)
