use Rattle.std.proofs.Common.{◌≡◌, ◌<◌, length}
use Rattle.rtrb.specs.Ring.{known_items, received}
use Rattle.read_ahead.proofs.incoming.wait_message.Given as goal

abbrev pub invariant-loop : goal.invariant-loop
invariant-loop g l = record {
  none : received l.consumer ≡ received l.initial.consumer;
  ready : 0 < length (known_items l.initial.consumer) → 0 < length (known_items l.consumer);
}
