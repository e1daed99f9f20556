use Rattle.std.proofs.Common.{subst}
use Rattle.round_trip.specs.Returning.{AreMade}
use Rattle.round_trip.proofs.made.settings_are_made.Goals as goal

pub returns : goal.returns
returns c = subst AreMade c.settings.view_is (rw c.deref.ensures.value at c.all_are_made.ensures)
