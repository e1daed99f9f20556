use Rattle.std.proofs.Common.{◌≡◌, filter, nat_lt, take}
use Rattle.channel_folder.proofs.scanned.below.Given as goal

abbrev pub invariant-loop-n : goal.invariant-loop-n
invariant-loop-n l = l.older.items ≡ filter (λ n. nat_lt n l.base) (take l.n-index l.numbers)
