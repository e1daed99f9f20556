use Rattle.rtrb.specs.Ring.{sent}
use Rattle.read_ahead.proofs.Telling.{tells_first}
use Rattle.read_ahead.proofs.reading.open_and_read.Goals as goal

pub read_ahead-stop-requires : goal.read_ahead-stop-requires
read_ahead-stop-requires g c =
    rw c.send.ensures.ok (tells_first g.I.Contents.holds (sent c.args.sender.now.producer) c.args.sender.now.number c.args.input (g.I.Reader.Read.remaining c.in-Ok.reader) c.in-Ok.openness c.requires c.in-Ok.ensures.ok)
