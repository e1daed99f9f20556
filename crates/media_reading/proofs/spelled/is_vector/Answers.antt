use Rattle.std.proofs.Common.{◌∙◌}
use Rattle.std.proofs.lemmas.Option.{MatchOption-at_some, MatchOption-at_none}
use Rattle.media_reading.proofs.InLines.{whole-equal, none-equal}
use Rattle.media_reading.proofs.spelled.is_vector.Goals as goal

pub returns-in-Some : goal.returns-in-Some
returns-in-Some c = c.is_empty.ensures ∙ whole-equal _ _ _ (MatchOption-at_some _ _ _ c.in-Some.is c.strip_digits.ensures)

pub returns-in-None : goal.returns-in-None
returns-in-None c = none-equal _ _ (MatchOption-at_none _ _ c.in-None.is c.strip_digits.ensures)
