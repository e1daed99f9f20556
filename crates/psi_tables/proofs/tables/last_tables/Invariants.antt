use Rattle.std.proofs.Common.{◌≡◌, take, map, None}
use Rattle.std.specs.List.{filter_map}
use Rattle.psi_tables.specs.InForce.{tables_of, last_or}
use Rattle.psi_tables.proofs.tables.last_tables.Given as goal

abbrev pub invariant-loop-section : goal.invariant-loop-section
invariant-loop-section l =
    l.tables ≡ last_or None (filter_map (tables_of l.choice) (map (λ section. section.items) (take l.section-index l.found)))
