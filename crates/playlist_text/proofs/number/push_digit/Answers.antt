use Rattle.playlist_text.proofs.Appending.{last-or-none, on-err}
use Rattle.playlist_text.proofs.number.push_digit.Goals as goal

pub returns-clause-part : goal.returns-clause-part
returns-clause-part c = on-err c.push.result (last-or-none c.push.result _ _ _ _ c.push.ensures.bytes) (λ p. p)
