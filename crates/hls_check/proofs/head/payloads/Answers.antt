use Rattle.std.proofs.Common.{◌≡◌, ℕ, suc, ◌+◌, ◌-◌, ◌++◌, length, take, drop, List, arith, sym, ap, ◌∙◌, append_assoc, append-nil}
use Rattle.std.proofs.lemmas.List.{drop-take, take-take}
use Rattle.hls_check.specs.Heads.{payloads}
use Rattle.hls_check.proofs.Payloads.{length-payloads}
use Rattle.hls_check.proofs.head.payloads.Goals as goal

-- one payload more
payloads-more : (owed left : ℕ) (rest packet behind done appended all : List ℕ) → owed ≡ suc left → done ++ payloads owed rest ≡ all
    → packet ≡ take 188 rest → length packet ≡ 188 → appended ≡ done ++ take (length packet - 4) (drop 4 packet) → behind ≡ drop 188 rest
    → appended ++ payloads left behind ≡ all
unfolding payloads
payloads-more owed left rest packet behind done appended all count so_far first long more later =
    let count_of : length packet - 4 ≡ 184 = omega arith in
    let payload : take (length packet - 4) (drop 4 packet) ≡ take 184 (drop 4 rest)
    = ap (λ k. take k (drop 4 packet)) count_of ∙ ap (λ x. take 184 (drop 4 x)) first ∙ ap (take 184) (drop-take 4 184 rest) ∙ take-take 184 184 (drop 4 rest) (omega arith) in
    ap (λ x. x ++ payloads left behind) more ∙ append_assoc done _ (payloads left behind)
    ∙ ap (λ x. done ++ (x ++ payloads left behind)) payload
    ∙ ap (λ x. done ++ (take 184 (drop 4 rest) ++ payloads left x)) later
    ∙ ap (λ k. done ++ payloads k rest) (sym count) ∙ so_far

payloads-done : (owed : ℕ) (rest done all : List ℕ) → owed ≡ 0 → done ++ payloads owed rest ≡ all → done ≡ all
unfolding payloads
payloads-done owed rest done all none so_far = sym (append-nil done) ∙ ap (λ k. done ++ payloads k rest) (sym none) ∙ so_far

pub packet-preserved : goal.packet-preserved
packet-preserved c =
    let count : c.args.count - c.packet.counter ≡ suc (c.args.count - (c.packet.counter + 1)) = omega arith in
    record {
      carried = payloads-more _ _ c.packet.rest.now c.split_at.result.0.now c.split_at.result.1.now _ _ _ count c.packet.invariant.carried
          c.split_at.ensures.front c.split_at.ensures.front_len c.in_ok-extend_from_slice.ensures.items c.split_at.ensures.back;
      there = omega (arith, c.split_at.ensures.back_len, c.packet.invariant.there);
    }

pub returns-clause-items : goal.returns-clause-items
returns-clause-items c = payloads-done _ _ _ _ (omega arith) c.packet.invariant.carried

pub returns-clause-len : goal.returns-clause-len
returns-clause-len c =
    ap length (payloads-done _ _ _ _ (omega arith) c.packet.invariant.carried)
    ∙ length-payloads c.args.count c.args.packets.now c.requires.there
