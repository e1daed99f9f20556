use Rattle.std.proofs.Common.{◌≤◌, length}
use Rattle.std.specs.Prelude.{vec_capacity}
use Rattle.aes_cbc.specs.Chain.{sealed_text}
use Rattle.aes_cbc.proofs.WrittenParts.{GoesOn}
use Rattle.aes_cbc.proofs.into.write_rest.Given as goal

abbrev pub invariant-chunk : goal.invariant-chunk
invariant-chunk g l = record {
  written : GoesOn (g.W.Write.contents l.initial.out) (g.W.Write.contents l.out) (sealed_text l.key l.fn.vector l.fn.rest) (sealed_text l.key l.last l.rest);
  room : vec_capacity l.initial.buffer ≤ vec_capacity l.buffer;
}

abbrev pub decreases-chunk : goal.decreases-chunk
decreases-chunk g l = length l.rest
