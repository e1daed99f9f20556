use Rattle.std.proofs.Common.{◌≡◌, ℕ, List, ◌++◌, map, sym, ◌∙◌, ap}
use Rattle.psi_tables.proofs.Flow.{brought_front, brought_none}
use Rattle.psi_tables.proofs.gather.bring.Goals as goal

pub returns-then-is_empty-clause-found : goal.returns-then-is_empty-clause-found
returns-then-is_empty-clause-found c =
    ap (map (λ section. section.items)) c.new.ensures.items ∙ sym (brought_none c.args.begun.now c.args.more.now (sym c.is_empty.ensures ∙ c.if-is_empty.true))

pub returns-clause-found : goal.returns-clause-found
returns-clause-found c =
    let some = sym c.is_empty.ensures ∙ c.if-is_empty.false in
    let joined : c.deref.result.now ≡ c.args.begun.now ++ c.args.more.now
    = c.deref.ensures.value ∙ c.in_ok-extend_from_slice.ensures.items ∙ ap (λ (x : List ℕ). x ++ c.args.more.now) c.in_ok-bytes.ensures.items in
    rw (brought_front c.args.begun.now c.args.more.now c.requires some, ← joined) c.first_in.ensures.found
