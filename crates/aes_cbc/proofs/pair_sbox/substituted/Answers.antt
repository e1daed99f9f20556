use Rattle.aes_cbc.specs.Tower.{tower, once, twice, left_half, right_half}
use Rattle.aes_cbc.specs.declared.sbox.TheConstants.{ONCE_LEFT, ONCE_RIGHT, TWICE_LEFT, TWICE_RIGHT}
use Rattle.aes_cbc.proofs.LookUps.{places_from}
use Rattle.aes_cbc.proofs.Halves.{left_half_test, right_half_test, at_halves_lanes, once_entry, twice_entry}
use Rattle.aes_cbc.proofs.pair_sbox.substituted.Goals as goal

pub look_up-requires : goal.look_up-requires
look_up-requires c = places_from left_half c.args.bytes _ c.halves.ensures.left c.fits-bytes.1 left_half_test

pub look_up-requires-2 : goal.look_up-requires-2
look_up-requires-2 c = places_from right_half c.args.bytes _ c.halves.ensures.right c.fits-bytes.1 right_half_test

pub look_up-requires-3 : goal.look_up-requires-3
look_up-requires-3 c = places_from left_half c.args.bytes _ c.halves.ensures.left c.fits-bytes.1 left_half_test

pub look_up-requires-4 : goal.look_up-requires-4
look_up-requires-4 c = places_from right_half c.args.bytes _ c.halves.ensures.right c.fits-bytes.1 right_half_test

pub returns-clause-once : goal.returns-clause-once
returns-clause-once c = λ s fits of_s.
    at_halves_lanes tower ONCE_LEFT ONCE_RIGHT s c.args.bytes _ _ _ _ once fits of_s c.halves.ensures.left c.halves.ensures.right c.look_up.ensures c.look_up-2.ensures once_entry

pub returns-clause-twice : goal.returns-clause-twice
returns-clause-twice c = λ s fits of_s.
    at_halves_lanes tower TWICE_LEFT TWICE_RIGHT s c.args.bytes _ _ _ _ twice fits of_s c.halves.ensures.left c.halves.ensures.right c.look_up-3.ensures c.look_up-4.ensures twice_entry
