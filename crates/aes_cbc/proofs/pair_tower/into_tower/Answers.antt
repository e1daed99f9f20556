use Rattle.std.proofs.Common.{map, ap, ◌∙◌, ◌/◌, ◌%◌, bit_xor}
use Rattle.std.proofs.lemmas.Simd.{map-map, zip2_of_maps}
use Rattle.aes_cbc.specs.Look.{look}
use Rattle.aes_cbc.specs.Tower.{tower}
use Rattle.aes_cbc.specs.declared.tower.TheConstants.{TOWER_LOW, TOWER_HIGH}
use Rattle.aes_cbc.proofs.LookUps.{places_from}
use Rattle.aes_cbc.proofs.Halves.{low_test, high_test}
use Rattle.aes_cbc.proofs.pair_tower.into_tower.Goals as goal

pub look_up-requires : goal.look_up-requires
look_up-requires c = places_from (λ x. x % 16) c.args.bytes _ c.low_halves.ensures c.fits-bytes.1 low_test

pub look_up-requires-2 : goal.look_up-requires-2
look_up-requires-2 c = places_from (λ x. x / 16) c.args.bytes _ c.high_halves.ensures c.fits-bytes.1 high_test

pub returns : goal.returns
unfolding tower
returns c =
    let v = c.args.bytes in
    zip2_of_maps bit_xor (λ x. look TOWER_LOW (x % 16)) (λ x. look TOWER_HIGH (x / 16)) v
    (c.look_up.ensures ∙ ap (map (look TOWER_LOW)) c.low_halves.ensures ∙ map-map (look TOWER_LOW) (λ x. x % 16) v)
    (c.look_up-2.ensures ∙ ap (map (look TOWER_HIGH)) c.high_halves.ensures ∙ map-map (look TOWER_HIGH) (λ x. x / 16) v)
