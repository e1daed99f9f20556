use Rattle.std.proofs.Common.{lit<, rules}
use Rattle.std.proofs.lemmas.Iterator.Search.{all_from_yields_List}
use Rattle.std.proofs.lemmas.Iterator.Splits.{YieldsList-from_str_split}
use Rattle.commands.specs.KeyFiles.{is_key_word}
use Rattle.commands.proofs.key_list.are_keys.Goals as goal

pub returns : goal.returns
returns c = all_from_yields_List is_key_word _ _ c.all.result c.all.ensures.ran
    (YieldsList-from_str_split 43 c.args.text.now (lit< tt) c.split.ensures.text c.split.ensures.has_more c.split.ensures.pattern)
    (λ x b q called. search rules)
