use Rattle.std.proofs.Common.{◌≡◌, ◌∙◌, IfOk, IfErr, ap, map, rules, subst}
use Rattle.std.specs.List.{list_all}
use Rattle.commands.specs.KeyFiles.{IsKeyFault, TellKeys, ToldWord, is_key_word, texts_of, told}
use Rattle.commands.specs.KeyLists.{key_texts}
use Rattle.commands.proofs.KeyWords.{counted-good, counted-texts}
use Rattle.commands.proofs.key_list.read_keys.Goals as goal

pub filled-requires-clause-words : goal.filled-requires-clause-words
filled-requires-clause-words g c =
    let items : c.deref.result.now ≡ c.args.room.words.items = search rules in
    ap (λ ws. list_all (λ (w : ToldWord). is_key_word w.text) (map told ws)) items ∙ ap (list_all (λ (w : ToldWord). is_key_word w.text)) c.requires.words
    ∙ counted-good 1 (key_texts c.args.text.now) ∙ c.requires.good

pub returns-clause-ok : goal.returns-clause-ok
returns-clause-ok g c =
    let items : c.deref.result.now ≡ c.args.room.words.items = search rules in
    let texts : texts_of (map told c.deref.result.now) ≡ key_texts c.args.text.now
    = ap (λ ws. texts_of (map told ws)) items ∙ ap texts_of c.requires.words ∙ counted-texts 1 (key_texts c.args.text.now) in
    subst (λ ts. IfOk c.filled.result (λ keys. TellKeys (g.F.FileReader.gives c.args.files.now) ts keys.items)) texts c.filled.ensures.ok

pub returns-clause-err : goal.returns-clause-err
returns-clause-err g c =
    let items : c.deref.result.now ≡ c.args.room.words.items = search rules in
    subst (λ ws. IfErr c.filled.result (λ why. IsKeyFault (g.F.FileReader.gives c.args.files.now) (g.F.FileReader.refuses c.args.files.now) (g.F.FileReader.wants c.args.files.now) ws why.fault))
    (ap (map told) items ∙ c.requires.words) c.filled.ensures.err
