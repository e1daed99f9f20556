use Rattle.std.proofs.Common.{◌≡◌}
use Rattle.ladder_items.specs.Runs.{run_of}
use Rattle.ladder_items.specs.World.{NothingDue, turns_of}
use Rattle.serial_run.specs.Leaving.{AreLeftAtStops}
use Rattle.serial_run.proofs.serial.turns.Given as goal

abbrev pub invariant-loop : goal.invariant-loop
invariant-loop g l = record {
  failures : g.O.Outlet.output.failures l.outlet ≡ g.O.Outlet.output.failures l.fn.outlet;
  left : AreLeftAtStops g.S.Source.input l.fn.sources.items l.sources.items l.renditions.lanes.items;
  due : NothingDue (run_of g.S.Source.input g.O.Outlet.output l.reads l.fn.sources.items l.sources.items l.fn.outlet l.outlet) l.fn.settings (turns_of l.counter 0) l.renditions.lanes.items l.renditions.playlists.items;
}

abbrev pub invariant-loop-r : goal.invariant-loop-r
invariant-loop-r g l = record {
  failures : g.O.Outlet.output.failures l.outlet ≡ g.O.Outlet.output.failures l.fn.outlet;
  left : AreLeftAtStops g.S.Source.input l.fn.sources.items l.sources.items l.renditions.lanes.items;
  due : NothingDue (run_of g.S.Source.input g.O.Outlet.output l.reads l.fn.sources.items l.sources.items l.fn.outlet l.outlet) l.fn.settings (turns_of l.counter l.r) l.renditions.lanes.items l.renditions.playlists.items;
}
