use Rattle.std.proofs.Common.{◌≡◌, ◌≢◌, ◌-◌, ◌<◌, [], length, map, ap, sym, ◌∙◌, arith, inl, inr, slice_index_or}
use Rattle.std.proofs.lemmas.Bool.{cases_lt}
use Rattle.std.proofs.lemmas.List.{get_or-set_other}
use Rattle.std.proofs.lemmas.Grind.{get_or-set_at}
use Rattle.std.proofs.Math.ListN.{length-set}
use Rattle.aes_cbc.specs.InverseCipher.{inv_mix_columns}
use Rattle.aes_cbc.specs.InverseTower.{entered}
use Rattle.aes_cbc.specs.declared.schedule.RoundKey.{RoundKey}
use Rattle.aes_cbc.proofs.schedule.unmixing_keys.Goals as goal

pub round-preserved : goal.round-preserved
round-preserved c =
    let ks = c.round.unmixing_keys in
    let i = c.round.i in
    let long : length ks ≡ 9 = c.round.invariant.long in
    record {
      long = length-set ks i _ ∙ long;
      keys = λ j d lt. elim (cases_lt j i) [
        | inl below ↦
            let ne : j ≢ i = omega arith in
            ap (λ (r : RoundKey). r.lanes) (get_or-set_other ks i j _ d ne) ∙ c.round.invariant.keys j d below
        | inr other ↦
            let same : j ≡ i = omega arith in
            let within : i < length ks = omega arith in
            ap (λ (r : RoundKey). r.lanes) (get_or-set_at ks i j _ d same within) ∙ c.unmixed_key-next.ensures
            ∙ ap (λ k. map entered (inv_mix_columns (slice_index_or c.args.keys.now (9 - k) []))) (sym same)
      ];
    }
