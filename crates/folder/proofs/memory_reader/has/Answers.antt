use Rattle.std.proofs.Common.{rules, ◌≡◌, sym, ap, ◌∙◌, String, Global}
use Rattle.std.specs.String.{string_bytes}
use Rattle.folder.proofs.Naming.{has-at}
use Rattle.folder.proofs.memory_reader.has.Goals as goal

pub returns-then-eq : goal.returns-then-eq
returns-then-eq c =
    let same : c.as_str.result.now ≡ c.args.name.now = search rules in
    sym (has-at c.args.names.now c.loop-one.one-index c.one-item.result c.args.name.now c.loop-one-test.true
    (ap (λ (s : String Global). string_bytes s) (sym c.one-item.is) ∙ sym c.as_str.ensures.value ∙ same))
