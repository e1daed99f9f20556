use Rattle.std.proofs.Common.{◌≡◌, ℕ, List, ◌++◌, codes}
use Rattle.std.proofs.lemmas.Result.{on_ok_weaker}
use Rattle.metrics.specs.Format.{escaped, fault_line}
use Rattle.metrics.proofs.Appends.{more}
use Rattle.metrics.proofs.family.push_fault.Goals as goal

pub returns-clause-ok : goal.returns-clause-ok
unfolding fault_line
returns-clause-ok c =
    let name : List ℕ = c.args.name.now in
    let before : List ℕ = codes "{rendition=\"" in
    let label : List ℕ = escaped c.args.label.now in
    let between : List ℕ = codes "\",fault=\"" in
    let fault : List ℕ = escaped c.args.fault.now in
    let end : List ℕ = codes "\"} 1\n" in
    let to_before : c.push-2.new.out.items ≡ c.args.out.now.items ++ (name ++ before) = more c.args.out.now.items c.push.new.out.items c.push-2.new.out.items name before c.in_ok-push.ensures.ok c.in_ok-push-2.ensures.ok in
    let to_label : c.push_label.new.out.items ≡ c.args.out.now.items ++ (name ++ before ++ label) = more c.args.out.now.items c.push-2.new.out.items c.push_label.new.out.items (name ++ before) label to_before c.in_ok-push_label.ensures.ok in
    let to_between : c.push-3.new.out.items ≡ c.args.out.now.items ++ (name ++ before ++ label ++ between) = more c.args.out.now.items c.push_label.new.out.items c.push-3.new.out.items (name ++ before ++ label) between to_label c.in_ok-push-3.ensures.ok in
    let to_fault : c.push_label-2.new.out.items ≡ c.args.out.now.items ++ (name ++ before ++ label ++ between ++ fault) = more c.args.out.now.items c.push-3.new.out.items c.push_label-2.new.out.items (name ++ before ++ label ++ between) fault to_between c.in_ok-push_label-2.ensures.ok in
    on_ok_weaker c.push-4.result (λ told. more c.args.out.now.items c.push_label-2.new.out.items c.push-4.new.out.items (name ++ before ++ label ++ between ++ fault) end to_fault told) c.push-4.ensures.ok
