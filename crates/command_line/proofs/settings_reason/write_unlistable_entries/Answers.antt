use Rattle.std.proofs.Common.{rules, ◌≡◌, ◌∙◌, ◌+◌, codes, decimal, None, option_map, refl, sym, ap, arith}
use Rattle.std.proofs.lemmas.List.{length-map, take-map}
use Rattle.commands.specs.Entries.{entry_value}
use Rattle.command_line.specs.SettingsWords.{is_among}
use Rattle.command_line.proofs.EntryNames.{parts-cut}
use Rattle.command_line.proofs.Listing.{grouped, listed-entry, many-entries, named-entry, no-entry, no-why, unlistable-entry, why-entries, written}
use Rattle.command_line.proofs.settings_reason.write_unlistable_entries.Goals as goal

pub returns-then-entries-gt-MOST_RENDITIONS : goal.returns-then-entries-gt-MOST_RENDITIONS
returns-then-entries-gt-MOST_RENDITIONS g c =
    written _ _ _ _ _ _ _ refl (many-entries _ (omega (arith, length-map c.args.entries.now (λ t. t.now), c.if-entries-gt-MOST_RENDITIONS.true))) (search rules)

pub loop-place-preserved-in_default : goal.loop-place-preserved-in_default
loop-place-preserved-in_default g c =
    let none : c.cut_entry.result ≡ None = search rules in
    let parts = ap (option_map entry_value) (sym none) ∙ parts-cut c.cut_entry.result _ c.cut_entry.ensures.some c.cut_entry.ensures.has c.cut_entry.ensures.none in
    record {
      kept = c.loop-place.invariant.kept;
      same = sym (no-entry c.args.entries.now c.loop-place.place _ c.loop-place-test.true parts) ∙ c.loop-place.invariant.same;
    }

pub returns-in-Some-unlistable : goal.returns-in-Some-unlistable
returns-in-Some-unlistable g c =
    let parts = parts-cut _ _ c.in-Some.ensures.some c.in-Some.ensures.has c.in-Some.ensures.none in
    let why = unlistable-entry c.args.entries.now c.loop-place.place _ c.loop-place-test.true c.in-Some.words parts c.in-Some-unlistable.why.now c.in-Some-unlistable.ensures.words in
    written _ _ _ _ _ _ _ c.loop-place.invariant.kept
    (why-entries _ _ (omega (arith, length-map c.args.entries.now (λ t. t.now), c.if-entries-gt-MOST_RENDITIONS.false)) (sym c.loop-place.invariant.same ∙ why)
    ∙ grouped (codes "entry ") (decimal (c.loop-place.place + 1)) (codes ": ") c.in-Some-unlistable.why.now) c.write-in-Some-unlistable.ensures.writes

pub returns-then-is_among : goal.returns-then-is_among
returns-then-is_among g c =
    let parts = parts-cut _ _ c.in-Some.ensures.some c.in-Some.ensures.has c.in-Some.ensures.none in
    let none : c.unlistable.result ≡ None = search rules in
    let alone = ap (option_map (λ t. t.now)) (sym none) ∙ c.unlistable.ensures.words in
    let among =
    sym c.if-is_among.true ∙ c.is_among.ensures.same ∙ ap (is_among c.in-Some.words.name.now) (sym (take-map (λ t. t.now) c.loop-place.place c.args.entries.now)) in
    let why = named-entry c.args.entries.now c.loop-place.place _ c.loop-place-test.true c.in-Some.words parts alone among in
    written _ _ _ _ _ _ _ c.loop-place.invariant.kept
    (why-entries _ _ (omega (arith, length-map c.args.entries.now (λ t. t.now), c.if-entries-gt-MOST_RENDITIONS.false)) (sym c.loop-place.invariant.same ∙ why)
    ∙ grouped (codes "entry ") (decimal (c.loop-place.place + 1)) (codes " has the name of an earlier one, ") c.in-Some.words.name.now) c.write-then-is_among.ensures.writes

pub loop-place-preserved : goal.loop-place-preserved
loop-place-preserved g c =
    let parts = parts-cut _ _ c.in-Some.ensures.some c.in-Some.ensures.has c.in-Some.ensures.none in
    let none : c.unlistable.result ≡ None = search rules in
    let alone = ap (option_map (λ t. t.now)) (sym none) ∙ c.unlistable.ensures.words in
    let among =
    sym c.if-is_among.false ∙ c.is_among.ensures.same ∙ ap (is_among c.in-Some.words.name.now) (sym (take-map (λ t. t.now) c.loop-place.place c.args.entries.now)) in
    record {
      kept = c.loop-place.invariant.kept;
      same = sym (listed-entry c.args.entries.now c.loop-place.place _ c.loop-place-test.true c.in-Some.words parts alone among) ∙ c.loop-place.invariant.same;
    }

pub returns : goal.returns
returns g c =
    written _ _ _ _ _ _ _ c.loop-place.invariant.kept
    (no-why _ c.loop-place.place (omega (arith, length-map c.args.entries.now (λ t. t.now), c.loop-place-test.false)) c.loop-place.invariant.same
    (omega (arith, length-map c.args.entries.now (λ t. t.now), c.if-entries-gt-MOST_RENDITIONS.false))) (search rules)
