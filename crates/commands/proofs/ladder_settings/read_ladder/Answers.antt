use Rattle.std.proofs.Common.{◌≡◌, ◌∙◌, All, ap, length, map, rules, subst, sym}
use Rattle.std.proofs.lemmas.List.{length-map}
use Rattle.std.proofs.lemmas.Result.{err_from_is_err_and}
use Rattle.std.specs.List.{list_all}
use Rattle.ladder_items.specs.Ladder.{Ladder}
use Rattle.commands.specs.Entries.{entry_of, entry_value}
use Rattle.commands.specs.KeyFiles.{TellKeys, ToldWord, is_key_word, texts_of, told}
use Rattle.commands.specs.LadderOptions.{asked_of, IsAskedLadder, IsWhole, key_words}
use Rattle.commands.proofs.EntryKeys.{all-good, words-length}
use Rattle.commands.proofs.KeyWords.{tell-length}
use Rattle.commands.proofs.LadderFacts.{whole-entries, within-any}
use Rattle.commands.proofs.ladder_settings.read_ladder.Goals as goal

pub ladder_under-requires-clause-keys : goal.ladder_under-requires-clause-keys
ladder_under-requires-clause-keys g c =
    let many : length c.deref.result.now ≡ length c.in_ok-key_words.key_words.items = search rules in
    many ∙ sym (length-map c.in_ok-key_words.key_words.items told) ∙ ap length c.in_ok-key_words.ensures.ok ∙ words-length 1 (map entry_value c.args.entries.now)

pub filled-requires-clause-words : goal.filled-requires-clause-words
filled-requires-clause-words g c =
    let items : c.deref-2.result.now ≡ c.in_ok-key_words.key_words.items = search rules in
    ap (λ ws. list_all (λ (w : ToldWord). is_key_word w.text) (map told ws)) items ∙ ap (list_all (λ (w : ToldWord). is_key_word w.text)) c.in_ok-key_words.ensures.ok
    ∙ all-good 1 (map entry_value c.args.entries.now) (subst (All IsWhole) (sym c.requires.each) (whole-entries (asked_of c.args.words c.args.numbers c.args.pool) c.requires.turns))

pub renditions-requires-clause-whole : goal.renditions-requires-clause-whole
renditions-requires-clause-whole g c =
    subst (All IsWhole) (sym c.requires.each) (whole-entries (asked_of c.args.words c.args.numbers c.args.pool) c.requires.turns)

pub renditions-requires-clause-keys : goal.renditions-requires-clause-keys
renditions-requires-clause-keys g c =
    let items : c.deref-2.result.now ≡ c.in_ok-key_words.key_words.items = search rules in
    ap length c.deref-3.ensures.value
    ∙ tell-length (g.F.FileReader.gives c.args.files.now) (texts_of (map told c.deref-2.result.now)) c.in_ok-keys.keys.items c.in_ok-keys.ensures.ok
    ∙ length-map (map told c.deref-2.result.now) (λ (w : ToldWord). w.text) ∙ ap (λ ws. length (map told ws)) items ∙ ap length c.in_ok-key_words.ensures.ok
    ∙ words-length 1 (map entry_value c.args.entries.now)

pub returns-in_err-within_limits-clause-outside : goal.returns-in_err-within_limits-clause-outside
returns-in_err-within_limits-clause-outside g c =
    let p = err_from_is_err_and c.from_residual-in_err-within_limits.result c.from_residual-in_err-within_limits.ensures.1 in
    rw p.1 (λ told. record {
      turns = c.requires.turns;
      outside = λ keys made is within.
          let asked = asked_of c.args.words c.args.numbers c.args.pool in
          c.in_err-within_limits.ensures.outside (within-any asked keys c.deref.result.now made c.in_ok-settings.settings is c.in_ok-settings.ensures.ladder within).allowed;
    })

pub returns-clause-ok : goal.returns-clause-ok
returns-clause-ok g c =
    let asked = asked_of c.args.words c.args.numbers c.args.pool in
    let keys = c.in_ok-keys.keys.items in
    let items : c.deref-2.result.now ≡ c.in_ok-key_words.key_words.items = search rules in
    let words : map told c.deref-2.result.now ≡ key_words 1 (map entry_of asked.entries)
    = ap (map told) items ∙ c.in_ok-key_words.ensures.ok ∙ ap (key_words 1) c.requires.each in
    let made : Ladder = record {
      renditions = c.in_ok-renditions.renditions.items;
      cut = c.settings.inside.cut;
      kind = c.settings.inside.kind;
      window = c.settings.inside.window;
      queue = c.settings.inside.queue;
    } in
    let is_made : IsAskedLadder asked keys made = record {
      renditions_are = rw (c.requires.each, c.deref-3.ensures.value) at c.in_ok-renditions.ensures.ok;
      cut_is = ap (λ (l : Ladder). l.cut) c.settings.view_is ∙ c.in_ok-settings.ensures.ladder.cut_is;
      kind_is = ap (λ (l : Ladder). l.kind) c.settings.view_is ∙ c.in_ok-settings.ensures.ladder.kind_is;
      window_is = ap (λ (l : Ladder). l.window) c.settings.view_is ∙ c.in_ok-settings.ensures.ladder.window_is;
      queue_is = ap (λ (l : Ladder). l.queue) c.settings.view_is ∙ c.in_ok-settings.ensures.ladder.queue_is;
    } in
    record {
      keys = keys;
      told = subst (λ ws. TellKeys (g.F.FileReader.gives c.args.files.now) (texts_of ws) keys) words c.in_ok-keys.ensures.ok;
      ladder_is = is_made;
      within = within-any asked c.deref.result.now keys c.in_ok-settings.settings made c.in_ok-settings.ensures.ladder is_made
          (record { cut_fits = c.requires.fits.0; pool_fits = c.requires.fits.1; allowed = c.in_ok-within_limits.ensures.inside });
    }
