use Rattle.std.proofs.Common.{◌∙◌, refl, sym, arith}
use Rattle.program.proofs.Ending.{told-fault, told-on, told-well, told-why}
use Rattle.program.proofs.Watched.{watched-by}
use Rattle.program.proofs.ladder.pack_ladder.Goals as goal

pub returns-then-job : goal.returns-then-job
returns-then-job g c =
    let p = c.pack_and_remove-sources.ensures in
    let e = c.end_run-answer in
    record {
      written = told-well _ c.pack_and_remove-sources.result.answer e.result.answer e.ensures.fault p.written;
      fault = told-fault _ _ _ _ _ _ _ c.pack_and_remove-sources.result.answer e.result.answer e.ensures.well e.ensures.fault p.never_held p.fault;
      told = told-why _ c.pack_and_remove-sources.result.answer e.result.answer e.ensures.well e.ensures.fault p.told;
      unbegun = tt;
      whole = λ stays. absurd (cc stays);
      pruned = λ goes. record {
        inputs = c.in_ok-sources.field-0.sources.items;
        opened = record { left_is = c.in_ok-sources.ensures.left; unread = c.in_ok-sources.ensures.unread; limits = c.in_ok-sources.ensures.limits };
        into = c.in_ok-into.into;
        asked = record { fresh = c.in_ok-into.ensures.fresh; path = c.in_ok-into.ensures.folder.0; may = c.in_ok-into.ensures.folder.1; syncs = c.in_ok-into.ensures.syncs };
        kept = c.in_ok-kept.kept.items;
        live = rw c.deref.ensures.value at c.in_ok-kept.ensures.kept;
        event = c.in_ok-kept.ensures.event;
        outlet = c.pack_and_remove-sources.result.outlet;
        is = refl;
        same = p.same;
        leaves = p.killed;
        unlisted = told-on _ c.pack_and_remove-sources.result.answer e.result.answer e.ensures.fault p.unlisted;
        cleared = told-on _ c.pack_and_remove-sources.result.answer e.result.answer e.ensures.fault p.cleared;
        ends = record {
          old = c.in_ok-publisher.field-0.publisher.list;
          new = _;
          first = c.in_ok-publisher.ensures.none;
          ok = told-well _ c.pack_and_remove-sources.result.answer e.result.answer e.ensures.fault p.ok;
          fault = told-why _ c.pack_and_remove-sources.result.answer e.result.answer e.ensures.well e.ensures.fault p.fault;
          watched = watched-by (λ t. t.now) _ _ _ _ _ _ _ _ _ c.in_ok-publisher.ensures.asked c.in_ok-publisher.ensures.unasked
              (c.in_ok-sources.ensures.view, c.in_ok-sources.ensures.shown)
              (λ to w is runs. c.in_ok-publisher.ensures.watched to w is runs)
              e.ensures.unasked e.ensures.unwritten e.ensures.shown;
        };
      };
    }

pub pack_into_folder-sources-requires-clause-room :
    goal.pack_into_folder-sources-requires-clause-room
pack_into_folder-sources-requires-clause-room g c κs within = λ k d lt.
    let none = c.in_ok-sources.ensures.unread k d lt in
    record { for_reads = omega (arith, none.0); for_a_failure = omega (arith, none.1) }

pub end_run-answer-requires-2 : goal.end_run-answer-requires-2
end_run-answer-requires-2 g c = record { board = λ watching runs. c.in_ok-publisher.ensures.board watching runs ∙ sym c.pack_into_folder-sources.ensures.board }

pub returns : goal.returns
returns g c =
    let p = c.pack_into_folder-sources.ensures in
    let e = c.end_run-answer-2 in
    record {
      written = told-well _ c.pack_into_folder-sources.result.answer e.result.answer e.ensures.fault p.written;
      fault = told-fault _ _ _ _ _ _ _ c.pack_into_folder-sources.result.answer e.result.answer e.ensures.well e.ensures.fault p.never_held p.fault;
      told = told-why _ c.pack_into_folder-sources.result.answer e.result.answer e.ensures.well e.ensures.fault p.told;
      unbegun = tt;
      whole = λ stays. record {
        inputs = c.in_ok-sources.field-0.sources.items;
        opened = record { left_is = c.in_ok-sources.ensures.left; unread = c.in_ok-sources.ensures.unread; limits = c.in_ok-sources.ensures.limits };
        into = c.in_ok-into.into;
        asked = record { fresh = c.in_ok-into.ensures.fresh; path = c.in_ok-into.ensures.folder.0; may = c.in_ok-into.ensures.folder.1; syncs = c.in_ok-into.ensures.syncs };
        outlet = c.pack_into_folder-sources.result.outlet;
        is = refl;
        leaves = p.playable;
        ends = record {
          old = c.in_ok-publisher.field-0.publisher.list;
          new = _;
          first = c.in_ok-publisher.ensures.none;
          ok = told-well _ c.pack_into_folder-sources.result.answer e.result.answer e.ensures.fault p.ok;
          fault = told-why _ c.pack_into_folder-sources.result.answer e.result.answer e.ensures.well e.ensures.fault p.fault;
          watched = watched-by (λ t. t.now) _ _ _ _ _ _ _ _ _ c.in_ok-publisher.ensures.asked c.in_ok-publisher.ensures.unasked
              (c.in_ok-sources.ensures.view, c.in_ok-sources.ensures.shown)
              (λ to w is runs. c.in_ok-publisher.ensures.watched to w is runs)
              e.ensures.unasked e.ensures.unwritten e.ensures.shown;
        };
      };
      pruned = λ goes. absurd (cc goes);
    }
