use Rattle.std.proofs.Common.{map, ap, ◌∙◌, ◌/◌, ◌%◌, bit_xor}
use Rattle.std.proofs.lemmas.Simd.{map-map, zip2_of_maps}
use Rattle.aes_cbc.specs.Look.{look}
use Rattle.aes_cbc.specs.Tower.{left_half, right_half}
use Rattle.aes_cbc.specs.declared.tower.TheConstants.{INVERSES, SCALED_INVERSES}
use Rattle.aes_cbc.proofs.LookUps.{places_from}
use Rattle.aes_cbc.proofs.Halves.{both_of, left_of, right_of, low_test, high_test, both_test, left_test, right_test}
use Rattle.aes_cbc.proofs.pair_tower.halves.Goals as goal

pub look_up-scaled-requires : goal.look_up-scaled-requires
look_up-scaled-requires c = places_from (λ x. x % 16) c.args.bytes _ c.low_halves-low.ensures c.fits-bytes.1 low_test

pub look_up-requires : goal.look_up-requires
look_up-requires c = places_from (λ x. x / 16) c.args.bytes _ c.high_halves-high.ensures c.fits-bytes.1 high_test

pub look_up-requires-2 : goal.look_up-requires-2
look_up-requires-2 c =
    let v = c.args.bytes in
    places_from both_of v _ (zip2_of_maps bit_xor (λ x. x % 16) (λ x. x / 16) v c.low_halves-low.ensures c.high_halves-high.ensures) c.fits-bytes.1 both_test

pub look_up-requires-3 : goal.look_up-requires-3
look_up-requires-3 c =
    let v = c.args.bytes in
    let scaled = c.look_up-scaled.ensures ∙ ap (map (look SCALED_INVERSES)) c.low_halves-low.ensures ∙ map-map (look SCALED_INVERSES) (λ x. x % 16) v in
    let inverse = c.look_up.ensures ∙ ap (map (look INVERSES)) c.high_halves-high.ensures ∙ map-map (look INVERSES) (λ x. x / 16) v in
    places_from left_of v _ (zip2_of_maps bit_xor (λ x. look INVERSES (x / 16)) (λ x. look SCALED_INVERSES (x % 16)) v inverse scaled) c.fits-bytes.1 left_test

pub look_up-requires-4 : goal.look_up-requires-4
look_up-requires-4 c =
    let v = c.args.bytes in
    let both = zip2_of_maps bit_xor (λ x. x % 16) (λ x. x / 16) v c.low_halves-low.ensures c.high_halves-high.ensures in
    let scaled = c.look_up-scaled.ensures ∙ ap (map (look SCALED_INVERSES)) c.low_halves-low.ensures ∙ map-map (look SCALED_INVERSES) (λ x. x % 16) v in
    let inverse = c.look_up-2.ensures ∙ ap (map (look INVERSES)) both ∙ map-map (look INVERSES) both_of v in
    places_from right_of v _ (zip2_of_maps bit_xor (λ x. look INVERSES (both_of x)) (λ x. look SCALED_INVERSES (x % 16)) v inverse scaled) c.fits-bytes.1 right_test

pub returns-clause-left : goal.returns-clause-left
unfolding left_half
returns-clause-left c =
    let v = c.args.bytes in
    let both = zip2_of_maps bit_xor (λ x. x % 16) (λ x. x / 16) v c.low_halves-low.ensures c.high_halves-high.ensures in
    let scaled = c.look_up-scaled.ensures ∙ ap (map (look SCALED_INVERSES)) c.low_halves-low.ensures ∙ map-map (look SCALED_INVERSES) (λ x. x % 16) v in
    let inverse = c.look_up.ensures ∙ ap (map (look INVERSES)) c.high_halves-high.ensures ∙ map-map (look INVERSES) (λ x. x / 16) v in
    let left = zip2_of_maps bit_xor (λ x. look INVERSES (x / 16)) (λ x. look SCALED_INVERSES (x % 16)) v inverse scaled in
    zip2_of_maps bit_xor (λ x. look INVERSES (left_of x)) both_of v
    (c.look_up-3.ensures ∙ ap (map (look INVERSES)) left ∙ map-map (look INVERSES) left_of v) both

pub returns-clause-right : goal.returns-clause-right
unfolding right_half
returns-clause-right c =
    let v = c.args.bytes in
    let both = zip2_of_maps bit_xor (λ x. x % 16) (λ x. x / 16) v c.low_halves-low.ensures c.high_halves-high.ensures in
    let scaled = c.look_up-scaled.ensures ∙ ap (map (look SCALED_INVERSES)) c.low_halves-low.ensures ∙ map-map (look SCALED_INVERSES) (λ x. x % 16) v in
    let inverse = c.look_up-2.ensures ∙ ap (map (look INVERSES)) both ∙ map-map (look INVERSES) both_of v in
    let right = zip2_of_maps bit_xor (λ x. look INVERSES (both_of x)) (λ x. look SCALED_INVERSES (x % 16)) v inverse scaled in
    zip2_of_maps bit_xor (λ x. look INVERSES (right_of x)) (λ x. x / 16) v
    (c.look_up-4.ensures ∙ ap (map (look INVERSES)) right ∙ map-map (look INVERSES) right_of v) c.high_halves-high.ensures
