use Rattle.std.proofs.Common.{◌%◌, ◌++◌, get_or, map, ◌∙◌, arith}
use Rattle.std.proofs.lemmas.List.FromFn.{get_or-map-range_with_len}
use Rattle.std.proofs.lemmas.List.{get_or_append_left}
use Rattle.std.specs.List.{range_with_len}
use Rattle.aes_cbc.proofs.PairLookUps.{places_ok, looked_up}
use Rattle.aes_cbc.proofs.pair_lanes.look_up.Goals as goal

pub swizzle : goal.swizzle
swizzle c = places_ok c.args.places c.fits-places.0 c.requires

pub returns : goal.returns
returns c =
    let t = c.args.table.now in
    looked_up t (map (λ j. get_or (t ++ t) (j % 16) 0) (range_with_len 0 32)) c.args.places c.fits-places.0 c.requires (λ k l.
    get_or-map-range_with_len (λ j. get_or (t ++ t) (j % 16) 0) 0 32 k k 0 l (omega arith)
    ∙ get_or_append_left t t 0 (k % 16) (omega arith))
