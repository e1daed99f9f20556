use Rattle.std.proofs.Common.{◌≡◌, ℕ, List, ◌++◌, codes}
use Rattle.std.proofs.lemmas.Result.{on_ok_weaker}
use Rattle.metrics.specs.Format.{escaped, sample_line}
use Rattle.metrics.proofs.Appends.{more}
use Rattle.metrics.proofs.family.push_line.Goals as goal

pub returns-clause-ok : goal.returns-clause-ok
unfolding sample_line
returns-clause-ok c =
    let name : List ℕ = c.args.name.now in
    let before : List ℕ = codes "{rendition=\"" in
    let label : List ℕ = escaped c.args.label.now in
    let behind : List ℕ = codes "\"} " in
    let value : List ℕ = c.args.value.now in
    let end : List ℕ = codes "\n" in
    let to_before : c.push-2.new.out.items ≡ c.args.out.now.items ++ (name ++ before) = more c.args.out.now.items c.push.new.out.items c.push-2.new.out.items name before c.in_ok-push.ensures.ok c.in_ok-push-2.ensures.ok in
    let to_label : c.push_label.new.out.items ≡ c.args.out.now.items ++ (name ++ before ++ label) = more c.args.out.now.items c.push-2.new.out.items c.push_label.new.out.items (name ++ before) label to_before c.in_ok-push_label.ensures.ok in
    let to_behind : c.push-3.new.out.items ≡ c.args.out.now.items ++ (name ++ before ++ label ++ behind) = more c.args.out.now.items c.push_label.new.out.items c.push-3.new.out.items (name ++ before ++ label) behind to_label c.in_ok-push-3.ensures.ok in
    let to_value : c.push-4.new.out.items ≡ c.args.out.now.items ++ (name ++ before ++ label ++ behind ++ value) = more c.args.out.now.items c.push-3.new.out.items c.push-4.new.out.items (name ++ before ++ label ++ behind) value to_behind c.in_ok-push-4.ensures.ok in
    on_ok_weaker c.push-5.result (λ told. more c.args.out.now.items c.push-4.new.out.items c.push-5.new.out.items (name ++ before ++ label ++ behind ++ value) end to_value told) c.push-5.ensures.ok
