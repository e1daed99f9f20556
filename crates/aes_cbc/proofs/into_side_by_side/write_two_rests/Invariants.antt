use Rattle.std.proofs.Common.{◌≡◌, ◌≤◌, [], length, slice_index_or}
use Rattle.std.specs.Prelude.{vec_capacity, IfErr, IsOk, OnOk}
use Rattle.aes_cbc.specs.Chain.{sealed_text}
use Rattle.aes_cbc.specs.declared.fault.SealFault.TheVariants.{Unwritten}
use Rattle.aes_cbc.proofs.WrittenParts.{GoesOn}
use Rattle.aes_cbc.proofs.into_side_by_side.write_two_rests.Given as goal

abbrev pub invariant-chunk : goal.invariant-chunk
invariant-chunk g l = record {
  first_written : OnOk l.wrote.0
      (GoesOn (g.W.Write.contents l.initial.first_out) (g.W.Write.contents l.first_out)
      (sealed_text l.fn.keys.0.now (slice_index_or l.fn.vectors 0 []) l.fn.rests.0.now) (sealed_text l.fn.keys.0.now (slice_index_or l.lasts 0 []) l.rests.0.now));
  first_before : OnOk l.wrote.0 (IsOk l.fn.before.0);
  first_fault : IfErr l.wrote.0 (λ fault. fault ≡ Unwritten);
  first_room : vec_capacity l.initial.first ≤ vec_capacity l.first;
  second_written : OnOk l.wrote.1
      (GoesOn (g.W.Write.contents l.initial.second_out) (g.W.Write.contents l.second_out)
      (sealed_text l.fn.keys.1.now (slice_index_or l.fn.vectors 1 []) l.fn.rests.1.now) (sealed_text l.fn.keys.1.now (slice_index_or l.lasts 1 []) l.rests.1.now));
  second_before : OnOk l.wrote.1 (IsOk l.fn.before.1);
  second_fault : IfErr l.wrote.1 (λ fault. fault ≡ Unwritten);
  second_room : vec_capacity l.initial.second ≤ vec_capacity l.second;
}

abbrev pub decreases-chunk : goal.decreases-chunk
decreases-chunk g l = length l.rests.0.now
