-- A ghost list owns nothing, so other threads may see it.
use denote.Memory.{part_of, raw_all}
use denote.Param.Send.{IsSync, cell_keyless}
use denote.RattleType.{RattleType}
use Rattle.ghost_list.specs.contracts.list.GhostList.{the_row}

pub sync : (A : RattleType) → IsSync (the_row A)
unfolding part_of
sync A = record { shared = λ d b o κ. λ q vs. (cell_keyless q (raw_all (the_row A).mir) vs b o, ((λ _. (tt, ((λ _. (tt, tt)), tt))), tt)) }
