use Rattle.std.proofs.Common.{◌≡◌, ◌∙◌, ◌++◌, arith}
use Rattle.std.proofs.lemmas.List.{take-append-drop}
use Rattle.std.specs.Option.{option_map}
use Rattle.commands.specs.Entries.{entry_value}
use Rattle.commands.specs.LadderOptions.{IsWhole, entry_words}
use Rattle.commands.proofs.LadderFacts.{shares-more, shares-end, room-left}
use Rattle.commands.proofs.TextFacts.{at-map}
use Rattle.commands.proofs.ladder_settings.renditions.Goals as goal

pub rendition-requires-clause-whole : goal.rendition-requires-clause-whole
rendition-requires-clause-whole c = at-map IsWhole entry_value c.args.entries.now c.loop-entry.entry-index _ c.loop-entry-test.true c.requires.whole

pub split_at-requires : goal.split_at-requires
split_at-requires c = room-left (entry_words (option_map (λ t. t.now) c.args.words.salt) c.args.words.event) c.args.period c.args.entries.now c.loop-entry.entry-index _ c.args.keys.now c.loop-entry.rest.now
    c.loop-entry.renditions.items c.key_count.result c.loop-entry-test.true c.loop-entry.invariant c.key_count.ensures

pub loop-entry-preserved : goal.loop-entry-preserved
loop-entry-preserved c =
    let parted : c.split_at.result.0.now ++ c.split_at.result.1.now ≡ c.loop-entry.rest.now = rw (c.split_at.ensures.front, c.split_at.ensures.back) (take-append-drop c.key_count.result c.loop-entry.rest.now) in
    shares-more (entry_words (option_map (λ t. t.now) c.args.words.salt) c.args.words.event) c.args.period c.args.entries.now c.loop-entry.entry-index _ c.args.keys.now c.loop-entry.rest.now
    c.split_at.result.0.now c.split_at.result.1.now c.loop-entry.renditions.items c.push.new.self.items c.in_ok-rendition.field-0 c.loop-entry-test.true c.loop-entry.invariant parted
    c.in_ok-rendition.ensures (c.split_at.ensures.front_len ∙ c.key_count.ensures) c.in_ok-push.ensures.items

pub returns-clause-ok : goal.returns-clause-ok
returns-clause-ok c = shares-end (entry_words (option_map (λ t. t.now) c.args.words.salt) c.args.words.event) c.args.period c.args.entries.now c.loop-entry.entry-index c.args.keys.now c.loop-entry.rest.now
    c.loop-entry.renditions.items (omega (arith, c.loop-entry-test.false, c.loop-entry.auto.entry-index-end)) c.loop-entry.invariant
