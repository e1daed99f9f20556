use Rattle.std.proofs.Common.{◌≡◌, ◌+◌, ◌*◌, ◌≤◌, ◌++◌, drop, vec_len}
use Rattle.std.specs.Prelude.{vec_capacity}
use Rattle.std.specs.List.{concat}
use Rattle.aes_cbc.specs.Opening.{inv_cbc}
use Rattle.aes_cbc.proofs.opening.append_eights.Given as goal

abbrev pub invariant-eight : goal.invariant-eight
invariant-eight l = record {
  items : l.text.items ++ concat (inv_cbc l.key l.before (drop (8 * l.i) l.blocks)) ≡ l.initial.text.items ++ concat (inv_cbc l.key l.fn.vector l.blocks);
  len : vec_len l.text ≡ vec_len l.initial.text + 16 * (8 * l.i);
  room : vec_capacity l.initial.text ≤ vec_capacity l.text;
}
