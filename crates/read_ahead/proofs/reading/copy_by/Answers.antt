use Rattle.std.proofs.Common.{refl, subst, sym, take, List, ℕ, arith}
use Rattle.std.specs.Io.KnownBytes.{Consumes}
use Rattle.rtrb.specs.Ring.{sent}
use Rattle.read_ahead.specs.declared.message.Message.TheVariants.{Bytes}
use Rattle.read_ahead.proofs.Streams.{some_taken}
use Rattle.read_ahead.proofs.Telling.{leaves_out, may_tell, tells_more}
use Rattle.read_ahead.proofs.reading.copy_by.Goals as goal

pub send_block-requires-clause-order : goal.send_block-requires-clause-order
send_block-requires-clause-order g c =
    let remaining = g.I.Reader.Read.remaining in
    rw c.wait_for_room-room.ensures.told (may_tell g.I.Contents.holds (sent c.loop.sender.producer) c.in-Ok.block.items (remaining c.loop.reader) (remaining c.read_into-read.new.reader) c.loop.invariant.1
    (some_taken c.in_ok-count.count c.read_into-read.new.buffer.items c.in-Ok.block.items c.if-count-eq0.false c.in_ok-count.ensures.within c.in-Ok.ensures.ok)
    (subst (λ (bs : List ℕ). Consumes (remaining c.loop.reader) (remaining c.read_into-read.new.reader) bs) (sym c.in-Ok.ensures.ok) c.in_ok-count.ensures.gave))

pub loop-preserved : goal.loop-preserved
loop-preserved g c =
    let remaining = g.I.Reader.Read.remaining in (
      omega (arith, c.requires.room, c.loop.invariant.0),
      rw (c.send_block.ensures.ok, c.wait_for_room-room.ensures.told) (tells_more g.I.Contents.holds (sent c.loop.sender.producer) (Bytes c.in-Ok.block) (remaining c.loop.reader) (remaining c.read_into-read.new.reader) c.loop.invariant.1 refl
          (subst (λ (bs : List ℕ). Consumes (remaining c.loop.reader) (remaining c.read_into-read.new.reader) bs) (sym c.in-Ok.ensures.ok) c.in_ok-count.ensures.gave)),
    )

pub returns-then-not-is_given-clause-left : goal.returns-then-not-is_given-clause-left
returns-then-not-is_given-clause-left g c _ =
    let remaining = g.I.Reader.Read.remaining in
    let block = take c.in_ok-count.count c.read_into-read.new.buffer.items in
    rw c.wait_for_room-room.ensures.told (leaves_out g.I.Contents.holds (sent c.loop.sender.producer) block (remaining c.loop.reader) (remaining c.read_into-read.new.reader) c.loop.invariant.1
    (some_taken c.in_ok-count.count c.read_into-read.new.buffer.items block c.if-count-eq0.false c.in_ok-count.ensures.within refl)
    c.in_ok-count.ensures.gave)
