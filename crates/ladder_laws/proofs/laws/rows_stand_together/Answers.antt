use Rattle.ladder_laws.proofs.Together.{segments, masters}
use Rattle.ladder_laws.proofs.laws.rows_stand_together.Goals as goal

pub returns : goal.returns
returns c = record { segments = segments; masters = masters }
