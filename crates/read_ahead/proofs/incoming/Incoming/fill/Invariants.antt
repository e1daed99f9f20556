use Rattle.std.proofs.Common.{length, take, ◌-◌, ◌≡◌, ◌≢◌, ◌<◌, ◌≤◌, ◌⊎◌}
use Rattle.std.specs.Io.KnownBytes.{Consumes}
use Rattle.rtrb.specs.Ring.{received}
use Rattle.read_ahead.specs.Sources.{IsDry, IsSound, StandsByLast, rest_of}
use Rattle.read_ahead.specs.declared.incoming.Phase.TheVariants.{Opening}
use Rattle.read_ahead.proofs.incoming.Incoming.fill.Given as goal

abbrev pub invariant-loop-given : goal.invariant-loop-given
invariant-loop-given g l = record {
  sound : IsSound g.I.Contents.holds l.self;
  phase : l.self.phase ≢ Opening;
  number : l.self.number ≡ l.initial.self.number;
  backlogs : l.self.backlogs ≡ l.initial.self.backlogs;
  within : l.given ≤ length l.initial.buffer;
  stands : StandsByLast (received l.initial.self.consumer) (received l.self.consumer) l.initial.self.phase l.self.phase;
  next : (l.self.at < length l.self.front.items) ⊎ IsDry l.self;
  first : l.given ≡ 0 → l.self.at < length l.self.front.items;
  gave : Consumes (rest_of g.I.Contents.holds l.initial.self) (rest_of g.I.Contents.holds l.self) (take l.given l.buffer);
}

abbrev pub decreases-loop-given : goal.decreases-loop-given
decreases-loop-given g l = length l.initial.buffer - l.given
