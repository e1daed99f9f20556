use Rattle.std.specs.Option.{unwrap_or}
use Rattle.std.proofs.Common.{rules, ◌≡◌, ◌∙◌, [], None, List, ℕ, Option, map, arith, ap}
use Rattle.std.proofs.lemmas.List.{length-map}
use Rattle.command_line.specs.EntryTexts.{entry_at}
use Rattle.command_line.proofs.EntryNames.{none-at, parts-cut, some-at}
use Rattle.command_line.proofs.explanation.entry_at.Goals as goal

pub returns-in_err-entries : goal.returns-in_err-entries
returns-in_err-entries c =
    let none : c.from_residual.result ≡ None = search rules in
    rw none (none-at [] c.args.place (omega arith) ∙ ap (λ (told : Option (List (List ℕ))). entry_at (unwrap_or told []) c.args.place) c.in_err-entries.ensures)

pub returns-then-place-entries : goal.returns-then-place-entries
returns-then-place-entries c =
    let entries = c.in_ok-entries.entries.now in
    none-at (map (λ t. t.now) entries) c.args.place (omega (arith, length-map entries (λ t. t.now), c.if-place-entries.true))
    ∙ ap (λ (told : Option (List (List ℕ))). entry_at (unwrap_or told []) c.args.place) c.in_ok-entries.ensures

pub returns : goal.returns
returns c =
    let entries = c.in_ok-entries.entries.now in
    parts-cut c.cut_entry.result _ c.cut_entry.ensures.some c.cut_entry.ensures.has c.cut_entry.ensures.none
    ∙ (some-at entries c.args.place _ (omega arith)
    ∙ ap (λ (told : Option (List (List ℕ))). entry_at (unwrap_or told []) c.args.place) c.in_ok-entries.ensures)
