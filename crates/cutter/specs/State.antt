-- What a cutter keeps of the packets that it was pushed.
use Rattle.std.specs.Prelude.{◌≡◌, [], ◌++◌, false, Option, Some, None, All}
use Rattle.pes_time.specs.declared.clock.Stamp.{Stamp}
use Rattle.cutter.specs.declared.cutter.Cutter.TheInside.{Inside as CutterInside}
use Rattle.cutter.specs.declared.spool_cutter.SpoolCutter.TheInside.{Inside}
use Rattle.cutter.specs.Settings.{Pushed, IsAllowed}
use Rattle.cutter.specs.Spooled.{Spooling, joined}
use Rattle.cutter.specs.Stream.{packets_of, pts_list}
use Rattle.cutter.specs.Segments.{Segment}
use Rattle.cutter.specs.Cuts.{Cuts, cuts, closed}
use Rattle.cutter.specs.SegmentState.{Gathered, gathered, held_in, IsIdle}
use Rattle.cutter.specs.Ordered.{IsPacketLong}

abbrev pub spooled : Inside → Spooling
spooled c = record {
  rendition = c.rendition;
  settings = c.settings;
  list = c.fed.items;
  ended = c.ended;
  turned = c.turned.items;
  filled = c.reel.plans;
}

abbrev pub pushed : CutterInside → Pushed
pushed c = record { rendition = c.inner.rendition; settings = c.inner.settings; list = c.fed.items; ended = c.ended }

abbrev pub held : Option Segment → Option Gathered
held None = None
held (Some g) = Some (gathered g)

-- so far is the stream cut, without a fault
pub record IsAt (a : Cuts) (last : Option Stamp) (now : Option Gathered) : Type 0 where
  pub sound : a.fault ≡ None
  pub top : a.top ≡ last
  pub going : held a.going ≡ now

-- what is kept is that of the packets that came
pub record Keeps (c : Inside) : Type 0 where
  pub watch : c.watch ≡ record { program = c.settings.program; packets = packets_of c.fed.items }
  pub clock : c.clock ≡ record { gap = c.settings.gap; list = pts_list c.settings c.fed.items }
  pub cuts : IsAt (cuts c.rendition c.settings c.fed.items) c.top (held_in c.going c.reel)
  pub idle : IsIdle c.going c.reel
  pub plans : joined c.turned.items ++ c.reel.plans ≡ closed c.rendition c.settings c.fed.items

pub record IsTied (c : Inside) : Type 0 where
  pub settings : IsAllowed c.settings
  pub packets : All IsPacketLong c.fed.items
  pub keeps : c.ended ≡ false → Keeps c

-- while a cutter hasn't ended, each plan was turned out at once
pub record IsEmptied (c : CutterInside) : Type 0 where
  pub going : c.inner.ended ≡ false
  pub list : c.inner.list ≡ c.fed.items
  pub filled : c.inner.filled ≡ []
