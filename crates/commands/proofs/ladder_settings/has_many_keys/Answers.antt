use Rattle.std.proofs.Common.{◌≡◌, ◌∙◌, length, ap, arith}
use Rattle.std.proofs.lemmas.Bool.{ltb-true, ltb-false}
use Rattle.commands.specs.Entries.{Entry}
use Rattle.commands.specs.KeyLists.{key_texts}
use Rattle.commands.specs.LadderOptions.{key_count}
use Rattle.commands.proofs.ladder_settings.has_many_keys.Goals as goal

counted : (c : goal.After-key_count) → c.key_count.result ≡ key_count c.args.text.now
counted c = c.key_count.ensures ∙ ap (λ (entry : Entry). length (key_texts entry.keys)) c.in-Some.ensures.some

pub returns-clause-many : goal.returns-clause-many
returns-clause-many c = λ more. omega (arith, counted c, ltb-true 4096 c.key_count.result more)

pub returns-clause-few : goal.returns-clause-few
returns-clause-few c = λ no_more. omega (arith, counted c, ltb-false 4096 c.key_count.result no_more)
