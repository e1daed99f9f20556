-- What an intake keeps of the bytes that it took.
use Rattle.std.specs.Prelude.{◌≡◌, false}
use Rattle.ts_packet.specs.Packets.{decided}
use Rattle.cutter.specs.Spooled.{joined}
use Rattle.ingest.specs.declared.intake.Intake.TheInside.{Inside}
use Rattle.ingest.specs.Streams.{Taken}

abbrev pub taken : Inside → Taken
taken i = record {
  rendition = i.cutter.rendition;
  settings = i.cutter.settings;
  stream = i.reader;
  ended = i.ended;
  turned = joined i.cutter.turned;
  filled = i.cutter.filled;
}

-- until it ends, the cutter goes on, and was pushed the packets that the bytes decide
pub record IsTied (i : Inside) : Type 0 where
  pub going : i.ended ≡ false → i.cutter.ended ≡ false
  pub list : i.ended ≡ false → i.cutter.list ≡ decided i.reader
