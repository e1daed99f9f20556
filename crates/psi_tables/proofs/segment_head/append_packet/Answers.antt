use Rattle.std.proofs.Common.{◌≡◌, ◌∙◌, ◌+◌, ◌-◌, ℕ, length}
use Rattle.std.specs.Prelude.{replicate}
use Rattle.std.proofs.lemmas.List.{drop-replicate}
use Rattle.psi_tables.proofs.segment_head.append_packet.Goals as goal

pub returns-clause-items : goal.returns-clause-items
returns-clause-items c =
    let begin = c.args.begin.now in
    let payload = c.args.payload.now in
    let stuffing : c.split_at.result.1.now ≡ replicate {A = ℕ} (188 - (length begin + length payload)) 255
    = c.split_at.ensures.back ∙ drop-replicate (length begin + length payload) 188 255 in
    let first = rw c.unwrap.ensures at c.extend_from_slice.ensures.items in
    let second = rw c.unwrap-2.ensures at c.extend_from_slice-2.ensures.items in
    let third = rw c.unwrap-3.ensures at c.extend_from_slice-3.ensures.items in
    cc (first, second, third, stuffing)
