use Rattle.std.proofs.Common.{rules, tests}
use Rattle.std.proofs.lemmas.Iterator.{YieldsList-from_slice}
use Rattle.std.proofs.lemmas.Iterator.Search.{all_from_yields_List}
use Rattle.playlist_text.specs.Names.{is_quotable_byte}
use Rattle.playlist_text.proofs.name.are_quotable.Goals as goal

pub returns : goal.returns
returns c =
    all_from_yields_List is_quotable_byte _ _ _ c.all.ensures.ran (YieldsList-from_slice c.args.bytes.now cc) (λ x b q k. search (rules, tests))
