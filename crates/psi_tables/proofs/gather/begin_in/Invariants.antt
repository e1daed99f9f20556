use Rattle.std.proofs.Common.{◌≡◌, ◌⊎◌, ◌++◌, [], true, length, map}
use Rattle.psi_tables.specs.Sections.{is_whole, begun_in, unfinished}
use Rattle.psi_tables.proofs.gather.begin_in.Given as goal

abbrev pub invariant-loop-rest : goal.invariant-loop-rest
invariant-loop-rest l = record {
  found : begun_in 0 l.bytes [] ≡ map (λ section. section.items) l.found.items ++ begun_in 0 l.rest [];
  left : unfinished 0 l.bytes ≡ unfinished 0 l.rest;
  first : (l.rest ≡ l.bytes) ⊎ (is_whole l.bytes ≡ true);
}

abbrev pub decreases-loop-rest : goal.decreases-loop-rest
decreases-loop-rest l = length l.rest
