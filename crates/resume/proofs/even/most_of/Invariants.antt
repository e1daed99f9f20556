use Rattle.std.proofs.Common.{◌≡◌, ◌-◌, drop, length}
use Rattle.resume.specs.Evening.{most_breaks}
use Rattle.resume.proofs.even.most_of.Given as goal

abbrev pub invariant-loop-k : goal.invariant-loop-k
invariant-loop-k l = l.most ≡ most_breaks (drop (length l.found - l.k) l.found)
