use Rattle.std.proofs.Common.{◌≡◌, ◌∙◌, map, Err, IfErr, ap, arith, rules, subst, sym, take}
use Rattle.commands.specs.KeyFiles.{IsKeyFault, told}
use Rattle.commands.proofs.KeyWords.{good-at, key-fault, tell-next}
use Rattle.commands.proofs.key_word.fill_keys.Goals as goal

pub read_word-requires : goal.read_word-requires
read_word-requires g c = good-at c.args.words.now c.loop-place.place _ c.loop-place-test.true c.requires.words

pub returns-in_err-keys-clause-err : goal.returns-in_err-keys-clause-err
returns-in_err-keys-clause-err g c =
    let same : c.from_residual.result ≡ Err c.in_err-keys.field-0.0 = search rules in
    subst (λ r. IfErr r (IsKeyFault (g.F.FileReader.gives c.args.files.now) (g.F.FileReader.refuses c.args.files.now) (g.F.FileReader.wants c.args.files.now) (map told c.args.words.now)))
    (sym same) (key-fault (g.F.FileReader.gives c.args.files.now) (g.F.FileReader.refuses c.args.files.now) (g.F.FileReader.wants c.args.files.now)
    c.args.words.now (take c.loop-place.place c.loop-place.keys) c.loop-place.place _ c.in_err-keys.field-0.0 c.loop-place-test.true c.loop-place.invariant
    (λ is. c.read_word.ensures.unread (c.in_err-keys.was ∙ ap Err is)) (λ n is. c.read_word.ensures.bad n (c.in_err-keys.was ∙ ap Err is)) (λ is. c.read_word.ensures.no_memory (c.in_err-keys.was ∙ ap Err is)))

pub loop-place-preserved : goal.loop-place-preserved
loop-place-preserved g c = tell-next (g.F.FileReader.gives c.args.files.now) c.args.words.now c.loop-place.keys c.loop-place.place _ _ c.loop-place-test.true
    (omega (arith, c.loop-place-test.true, c.requires.places, c.loop-place.auto.keys)) c.loop-place.invariant c.in_ok-keys.ensures.ok
