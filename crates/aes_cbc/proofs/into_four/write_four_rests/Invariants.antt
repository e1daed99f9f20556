use Rattle.std.proofs.Common.{◌≡◌, ◌≤◌, [], length, slice_index_or}
use Rattle.std.specs.Prelude.{vec_capacity, IfErr, IsOk, OnOk}
use Rattle.aes_cbc.specs.Chain.{sealed_text}
use Rattle.aes_cbc.specs.declared.fault.SealFault.TheVariants.{Unwritten}
use Rattle.aes_cbc.proofs.WrittenParts.{GoesOn}
use Rattle.aes_cbc.proofs.into_four.write_four_rests.Given as goal

abbrev pub invariant-chunk : goal.invariant-chunk
invariant-chunk g l = record {
  first_written : OnOk l.wrote.0
      (GoesOn (g.W.Write.contents l.initial.first_out) (g.W.Write.contents l.first_out)
      (sealed_text l.fn.keys.0.now (slice_index_or l.fn.vectors 0 []) l.fn.rests.0.now) (sealed_text l.fn.keys.0.now (slice_index_or l.lasts 0 []) l.rests.0.now));
  first_before : OnOk l.wrote.0 (IsOk l.fn.before.0);
  first_fault : IfErr l.wrote.0 (λ fault. fault ≡ Unwritten);
  first_room : vec_capacity l.initial.first ≤ vec_capacity l.first;
  second_written : OnOk l.wrote.1
      (GoesOn (g.W.Write.contents l.initial.second_out) (g.W.Write.contents l.second_out)
      (sealed_text l.fn.keys.1.now (slice_index_or l.fn.vectors 1 []) l.fn.rests.1.now) (sealed_text l.fn.keys.1.now (slice_index_or l.lasts 1 []) l.rests.1.now));
  second_before : OnOk l.wrote.1 (IsOk l.fn.before.1);
  second_fault : IfErr l.wrote.1 (λ fault. fault ≡ Unwritten);
  second_room : vec_capacity l.initial.second ≤ vec_capacity l.second;
  third_written : OnOk l.wrote.2
      (GoesOn (g.W.Write.contents l.initial.third_out) (g.W.Write.contents l.third_out)
      (sealed_text l.fn.keys.2.now (slice_index_or l.fn.vectors 2 []) l.fn.rests.2.now) (sealed_text l.fn.keys.2.now (slice_index_or l.lasts 2 []) l.rests.2.now));
  third_before : OnOk l.wrote.2 (IsOk l.fn.before.2);
  third_fault : IfErr l.wrote.2 (λ fault. fault ≡ Unwritten);
  third_room : vec_capacity l.initial.third ≤ vec_capacity l.third;
  fourth_written : OnOk l.wrote.3
      (GoesOn (g.W.Write.contents l.initial.fourth_out) (g.W.Write.contents l.fourth_out)
      (sealed_text l.fn.keys.3.now (slice_index_or l.fn.vectors 3 []) l.fn.rests.3.now) (sealed_text l.fn.keys.3.now (slice_index_or l.lasts 3 []) l.rests.3.now));
  fourth_before : OnOk l.wrote.3 (IsOk l.fn.before.3);
  fourth_fault : IfErr l.wrote.3 (λ fault. fault ≡ Unwritten);
  fourth_room : vec_capacity l.initial.fourth ≤ vec_capacity l.fourth;
}

abbrev pub decreases-chunk : goal.decreases-chunk
decreases-chunk g l = length l.rests.0.now
