use Rattle.std.proofs.Common.{◌≡◌, ◌*◌, ◌++◌, [], length, take, drop, slice_index_or}
use Rattle.std.specs.List.{concat}
use Rattle.aes_cbc.specs.Chain.{cbc, blocks}
use Rattle.aes_cbc.proofs.chains.encrypt_four_chains.Given as goal

abbrev pub invariant-block : goal.invariant-block
invariant-block l = record {
  first_items : take (16 * l.i) l.first ++ concat (cbc l.fn.keys.0.now (take 16 l.front_last) (drop l.i (blocks l.initial.first))) ≡ concat (cbc l.fn.keys.0.now (slice_index_or l.fn.vectors 0 []) (blocks l.initial.first));
  first_rest : drop (16 * l.i) l.first ≡ drop (16 * l.i) l.initial.first;
  first_len : length l.first ≡ length l.initial.first;
  second_items : take (16 * l.i) l.second ++ concat (cbc l.fn.keys.1.now (drop 16 l.front_last) (drop l.i (blocks l.initial.second))) ≡ concat (cbc l.fn.keys.1.now (slice_index_or l.fn.vectors 1 []) (blocks l.initial.second));
  second_rest : drop (16 * l.i) l.second ≡ drop (16 * l.i) l.initial.second;
  second_len : length l.second ≡ length l.initial.second;
  third_items : take (16 * l.i) l.third ++ concat (cbc l.fn.keys.2.now (take 16 l.back_last) (drop l.i (blocks l.initial.third))) ≡ concat (cbc l.fn.keys.2.now (slice_index_or l.fn.vectors 2 []) (blocks l.initial.third));
  third_rest : drop (16 * l.i) l.third ≡ drop (16 * l.i) l.initial.third;
  third_len : length l.third ≡ length l.initial.third;
  fourth_items : take (16 * l.i) l.fourth ++ concat (cbc l.fn.keys.3.now (drop 16 l.back_last) (drop l.i (blocks l.initial.fourth))) ≡ concat (cbc l.fn.keys.3.now (slice_index_or l.fn.vectors 3 []) (blocks l.initial.fourth));
  fourth_rest : drop (16 * l.i) l.fourth ≡ drop (16 * l.i) l.initial.fourth;
  fourth_len : length l.fourth ≡ length l.initial.fourth;
}
