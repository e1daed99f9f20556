use Rattle.aes_cbc.specs.Tower.{tower, last, left_half, right_half}
use Rattle.aes_cbc.specs.declared.sbox.TheConstants.{LAST_LEFT, LAST_RIGHT}
use Rattle.aes_cbc.proofs.LookUps.{places_from}
use Rattle.aes_cbc.proofs.Halves.{left_half_test, right_half_test, at_halves_lanes, last_entry}
use Rattle.aes_cbc.proofs.pair_sbox.last_substituted.Goals as goal

pub look_up-requires : goal.look_up-requires
look_up-requires c = places_from left_half c.args.bytes _ c.halves.ensures.left c.fits-bytes.1 left_half_test

pub look_up-requires-2 : goal.look_up-requires-2
look_up-requires-2 c = places_from right_half c.args.bytes _ c.halves.ensures.right c.fits-bytes.1 right_half_test

pub returns : goal.returns
returns c = λ s fits of_s.
    at_halves_lanes tower LAST_LEFT LAST_RIGHT s c.args.bytes _ _ _ _ last fits of_s c.halves.ensures.left c.halves.ensures.right c.look_up.ensures c.look_up-2.ensures last_entry
