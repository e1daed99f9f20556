use Rattle.std.proofs.Common.{rules, ◌≡◌, ◌∙◌, [], ◌∷◌, ◌++◌, length, ◌+◌, sym, ap, append_assoc}
use Rattle.std.specs.Prelude.{slice_index_or}
use Rattle.std.specs.Vec.Iter.{into_iter_items}
use Rattle.flow_core.specs.Sequences.{first_sequence}
use Rattle.flow_core.specs.Gatherings.{sequences_from}
use Rattle.flow_core.proofs.Gathering.{sequences-append, sequences-count}
use Rattle.flow_core.proofs.collector.first_sequences.Goals as goal

pub loop-keys-preserved : goal.loop-keys-preserved
loop-keys-preserved c =
    let ks = c.loop-keys.yielded in
    let starts = c.args.starts.now in
    let count = sequences-count 0 ks starts in
    let all : c.args.keys.items ≡ ks ++ c.in-Some.keys ∷ into_iter_items c.next.new.self = search rules in
    let at : c.len-rendition.result ≡ 0 + length ks = search (rules, count) in
    let made : c.push_reserved.new.self.items ≡ sequences_from 0 ks starts ++ first_sequence c.len-rendition.result c.in-Some.keys (slice_index_or starts c.len-rendition.result 0) ∷ [] = search rules in
    record {
      rest = append_assoc ks (c.in-Some.keys ∷ []) (into_iter_items c.next.new.self) ∙ sym all;
      made = made ∙ ap (λ n. sequences_from 0 ks starts ++ first_sequence n c.in-Some.keys (slice_index_or starts n 0) ∷ []) at ∙ sym (sequences-append 0 ks c.in-Some.keys starts);
    }
