use Rattle.std.proofs.Common.{◌≡◌, ◌+◌, ◌*◌, ◌≤◌, ◌++◌, drop, vec_len}
use Rattle.std.specs.Prelude.{vec_capacity}
use Rattle.std.specs.List.{concat}
use Rattle.aes_cbc.specs.Opening.{inv_cbc}
use Rattle.aes_cbc.proofs.opening.append_each.Given as goal

abbrev pub invariant-block : goal.invariant-block
invariant-block l = record {
  items : l.text.items ++ concat (inv_cbc l.key l.before (drop l.block-index l.blocks)) ≡ l.initial.text.items ++ concat (inv_cbc l.key l.fn.vector l.blocks);
  len : vec_len l.text ≡ vec_len l.initial.text + 16 * l.block-index;
  room : vec_capacity l.initial.text ≤ vec_capacity l.text;
}
