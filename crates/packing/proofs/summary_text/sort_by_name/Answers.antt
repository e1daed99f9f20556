use Rattle.std.proofs.Common.{rules, nat_cmp, is_lt}
use Rattle.std.proofs.lemmas.List.Sorted.{answers_always}
use Rattle.std.specs.Cmp.Lexicographic.{slice_cmp}
use Rattle.packing.specs.SummaryLines.{Told, told_value}
use Rattle.packing.proofs.SummaryLines.{sorted-map}
use Rattle.packing.proofs.summary_text.sort_by_name.Goals as goal

pub returns-clause-ascending : goal.returns-clause-ascending
returns-clause-ascending c = sorted-map told_value (λ (a b : Told). is_lt (slice_cmp nat_cmp a.name b.name)) c.sort_by_key.new.self.items
    (c.in_ok-sort_by_key.ensures.sorted (λ row. row.name) (answers_always _ _ _ (λ f a r g h. search rules)))

pub returns-clause-stable : goal.returns-clause-stable
returns-clause-stable c = c.in_ok-sort_by_key.ensures.stable (λ row. row.name) (answers_always _ _ _ (λ f a r g h. search rules))

pub returns-in_err-sort_by_key-clause-stable : goal.returns-in_err-sort_by_key-clause-stable
returns-in_err-sort_by_key-clause-stable c = c.in_err-sort_by_key.ensures.stable (λ row. row.name) (answers_always _ _ _ (λ f a r g h. search rules))
