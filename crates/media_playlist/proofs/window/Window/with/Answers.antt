use Rattle.std.proofs.Common.{List, refl, arith}
use Rattle.media_playlist.specs.Rows.{SegmentRow}
use Rattle.media_playlist.proofs.Moving.{IsStart-nil}
use Rattle.media_playlist.proofs.window.Window.with.Goals as goal

pub invariant_of-result : goal.invariant_of-result
invariant_of-result c =
    let tied = IsStart-nil c.args.event c.args.target c.args.window c.new-3.result.items c.new-2.result c.new-3.ensures c.new-2.ensures in
    record { counts = tied.0; first = tied.1; rows = rw (c.new.ensures.items, c.new-2.ensures, c.new-3.ensures) (refl {A = List SegmentRow}); gone = rw c.nothing.ensures (record { rows = omega arith; frames = omega arith; discontinuities = omega arith }) }
