use Rattle.playlist_text.proofs.Appending.{last-or-none, on-err}
use Rattle.playlist_text.proofs.number.push_decimal.Goals as goal

pub returns-clause-part : goal.returns-clause-part
returns-clause-part c = on-err c.push_str.result (last-or-none c.push_str.result _ _ _ _ c.push_str.ensures.bytes) (λ p. p)
