use Rattle.aes_cbc.specs.Tower.{left_half, right_half}
use Rattle.aes_cbc.specs.InverseTower.{entered, unmixed}
use Rattle.aes_cbc.specs.declared.inverse_sbox.TheConstants.{SEVEN_LEFT, SEVEN_RIGHT, TWICE_LEFT, TWICE_RIGHT, FOUR_LEFT, FOUR_RIGHT, NINE_LEFT, NINE_RIGHT}
use Rattle.aes_cbc.proofs.LookUps.{places_from}
use Rattle.aes_cbc.proofs.Halves.{left_half_test, right_half_test, at_halves_lanes}
use Rattle.aes_cbc.proofs.InverseHalves.{seven_entry, twice_entry, four_entry, nine_entry, fourteen_sum, eleven_sum, thirteen_sum, sum_lanes}
use Rattle.aes_cbc.proofs.pair_inverse_sbox.unmixed.Goals as goal

pub look_up-requires : goal.look_up-requires
look_up-requires c = places_from left_half c.args.bytes _ c.halves.ensures.left c.fits-bytes.1 left_half_test

pub look_up-requires-2 : goal.look_up-requires-2
look_up-requires-2 c = places_from right_half c.args.bytes _ c.halves.ensures.right c.fits-bytes.1 right_half_test

pub look_up-requires-3 : goal.look_up-requires-3
look_up-requires-3 c = places_from left_half c.args.bytes _ c.halves.ensures.left c.fits-bytes.1 left_half_test

pub look_up-requires-4 : goal.look_up-requires-4
look_up-requires-4 c = places_from right_half c.args.bytes _ c.halves.ensures.right c.fits-bytes.1 right_half_test

pub look_up-requires-5 : goal.look_up-requires-5
look_up-requires-5 c = places_from left_half c.args.bytes _ c.halves.ensures.left c.fits-bytes.1 left_half_test

pub look_up-requires-6 : goal.look_up-requires-6
look_up-requires-6 c = places_from right_half c.args.bytes _ c.halves.ensures.right c.fits-bytes.1 right_half_test

pub look_up-requires-7 : goal.look_up-requires-7
look_up-requires-7 c = places_from left_half c.args.bytes _ c.halves.ensures.left c.fits-bytes.1 left_half_test

pub look_up-requires-8 : goal.look_up-requires-8
look_up-requires-8 c = places_from right_half c.args.bytes _ c.halves.ensures.right c.fits-bytes.1 right_half_test

pub returns-clause-fourteen : goal.returns-clause-fourteen
returns-clause-fourteen c = λ s fits of_s.
    let nine = at_halves_lanes entered NINE_LEFT NINE_RIGHT s c.args.bytes _ _ _ _ (unmixed 9) fits of_s c.halves.ensures.left c.halves.ensures.right c.look_up.ensures c.look_up-2.ensures nine_entry in
    let other = at_halves_lanes entered SEVEN_LEFT SEVEN_RIGHT s c.args.bytes _ _ _ _ (unmixed 7) fits of_s c.halves.ensures.left c.halves.ensures.right c.look_up-3.ensures c.look_up-4.ensures seven_entry in
    sum_lanes 9 7 14 s _ _ fits nine other fourteen_sum

pub returns-clause-eleven : goal.returns-clause-eleven
returns-clause-eleven c = λ s fits of_s.
    let nine = at_halves_lanes entered NINE_LEFT NINE_RIGHT s c.args.bytes _ _ _ _ (unmixed 9) fits of_s c.halves.ensures.left c.halves.ensures.right c.look_up.ensures c.look_up-2.ensures nine_entry in
    let other = at_halves_lanes entered TWICE_LEFT TWICE_RIGHT s c.args.bytes _ _ _ _ (unmixed 2) fits of_s c.halves.ensures.left c.halves.ensures.right c.look_up-5.ensures c.look_up-6.ensures twice_entry in
    sum_lanes 9 2 11 s _ _ fits nine other eleven_sum

pub returns-clause-thirteen : goal.returns-clause-thirteen
returns-clause-thirteen c = λ s fits of_s.
    let nine = at_halves_lanes entered NINE_LEFT NINE_RIGHT s c.args.bytes _ _ _ _ (unmixed 9) fits of_s c.halves.ensures.left c.halves.ensures.right c.look_up.ensures c.look_up-2.ensures nine_entry in
    let other = at_halves_lanes entered FOUR_LEFT FOUR_RIGHT s c.args.bytes _ _ _ _ (unmixed 4) fits of_s c.halves.ensures.left c.halves.ensures.right c.look_up-7.ensures c.look_up-8.ensures four_entry in
    sum_lanes 9 4 13 s _ _ fits nine other thirteen_sum

pub returns-clause-nine : goal.returns-clause-nine
returns-clause-nine c = λ s fits of_s.
    at_halves_lanes entered NINE_LEFT NINE_RIGHT s c.args.bytes _ _ _ _ (unmixed 9) fits of_s c.halves.ensures.left c.halves.ensures.right c.look_up.ensures c.look_up-2.ensures nine_entry
