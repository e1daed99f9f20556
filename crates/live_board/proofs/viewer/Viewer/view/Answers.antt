use Rattle.live_board.proofs.Moves.{enters}
use Rattle.live_board.proofs.viewer.Viewer.view.Goals as goal

pub enter_as-requires : goal.enter_as-requires
enter_as-requires c x = enters _ _ x
