use Rattle.std.proofs.Common.{◌∙◌, ap, length, sym}
use Rattle.std.proofs.lemmas.List.{length-map}
use Rattle.std.proofs.lemmas.Result.{err_from_is_err_and}
use Rattle.commands.specs.KeyFiles.{ToldWord, counted, told}
use Rattle.commands.specs.KeyLists.{key_texts}
use Rattle.commands.specs.Settings.{AreInside, words_of}
use Rattle.commands.proofs.KeyWords.{counted-texts, tell-length}
use Rattle.commands.proofs.SettingsFacts.{allowed-any, not-inside}
use Rattle.commands.proofs.settings.read_within.Goals as goal

pub settings_under-requires-clause-keys : goal.settings_under-requires-clause-keys
settings_under-requires-clause-keys g c =
    let texts = key_texts c.args.words.keys.now in
    let room = c.in_ok-room.ensures in
    ap length c.deref.ensures.value ∙ room.keys ∙ sym (length-map c.in_ok-room.room.words.items told) ∙ ap length room.words
    ∙ sym (length-map (counted 1 texts) (λ (w : ToldWord). w.text)) ∙ ap length (counted-texts 1 texts)

pub returns-in_err-within_limits-clause-settings : goal.returns-in_err-within_limits-clause-settings
returns-in_err-within_limits-clause-settings g c =
    let p = err_from_is_err_and c.from_residual-in_err-within_limits.result c.from_residual-in_err-within_limits.ensures.1 in
    rw p.1 (λ told. record {
      good = c.requires.fit.0;
      outside = λ keys made is fits allowed.
          c.in_err-within_limits.ensures.outside (allowed-any (words_of c.args.words) c.args.numbers keys c.deref.result.now made c.in_ok-blank.blank is c.in_ok-blank.ensures allowed);
    })

pub settings_under-requires-2-clause-keys : goal.settings_under-requires-2-clause-keys
settings_under-requires-2-clause-keys g c =
    ap length c.deref-2.ensures.value ∙ tell-length (g.F.FileReader.gives c.args.files.now) (key_texts c.args.words.keys.now) c.in_ok-keys.keys.items c.in_ok-keys.ensures.ok

pub returns-clause-outside : goal.returns-clause-outside
returns-clause-outside g c = λ out.
    let inside : AreInside (words_of c.args.words) c.args.numbers = record {
      fit = c.requires.fit;
      keys = c.deref.result.now;
      made = c.in_ok-blank.blank;
      ladder_is = c.in_ok-blank.ensures;
      allowed = c.in_ok-within_limits.ensures.inside;
    } in
    absurd (not-inside (words_of c.args.words) c.args.numbers out inside)
