use Rattle.std.proofs.Common.{rules, ◌≡◌, ◌∙◌, None, option_map, map, codes, ap, sym, unwrap_or}
use Rattle.clap.specs.Words.{found_of}
use Rattle.commands.specs.Defaults.{name_of}
use Rattle.command_line.specs.SettingsWords.{listing_words, rendition_words}
use Rattle.command_line.specs.Words.{given_text}
use Rattle.command_line.proofs.Listing.{written}
use Rattle.command_line.proofs.Outside.{none-outside, outside-is, some-outside, unwrap-now}
use Rattle.command_line.proofs.explanation.write_settings.Goals as goal

pub returns-then-branch : goal.returns-then-branch
returns-then-branch g c = λ plain _.
    some-outside _ _ _ _ _ _ (outside-is _ _ _ c.number_words.ensures c.pool_words.ensures) c.in_ok-write_outside.ensures.words c.if-branch.true plain

pub returns-in-Some : goal.returns-in-Some
returns-in-Some g c =
    let found = found_of c.args.options.now in
    let none = none-outside _ found _ _ _ _ (outside-is found _ _ c.number_words.ensures c.pool_words.ensures) c.in_ok-write_outside.ensures.words c.if-branch.false in
    written _ _ _ _ _ _ _ none.0 (none.1 ∙ ap (λ t. listing_words t found) (sym c.in-Some.ensures)) c.write_unlistable_entries.ensures

pub returns : goal.returns
returns g c =
    let found = found_of c.args.options.now in
    let none = none-outside _ found _ _ _ _ (outside-is found _ _ c.number_words.ensures c.pool_words.ensures) c.in_ok-write_outside.ensures.words c.if-branch.false in
    let no_entries : c.get_strs.result ≡ None = search rules in
    let name : c.unwrap_or-name.result.now ≡ name_of (given_text found (codes "name")) =
    ap (λ b. b.now) c.unwrap_or-name.ensures ∙ unwrap-now c.packing_words-given.result.name _ ∙ ap (λ o. unwrap_or o (codes "v")) c.packing_words-given.ensures.name in
    written _ _ _ _ _ _ _ none.0 (none.1
    ∙ ap (λ t. listing_words t found) (sym (ap (option_map (λ s. map (λ v. v.now) s.now)) (sym no_entries) ∙ c.get_strs.ensures))
    ∙ (λ i. rendition_words (sym name i) (sym c.packing_words-given.ensures.codecs i) (sym c.packing_words-given.ensures.size i))) c.write_unlistable.ensures
