use Rattle.std.proofs.Common.{◌∙◌, ◌++◌, Ok, inl, inr, refl, subst, sym, ap, All, rules}
use Rattle.std.specs.Prelude.{option_copied, is_some}
use Rattle.std.proofs.lemmas.Bool.{false≢true, true≢false}
use Rattle.std.proofs.lemmas.List.Elements.{All-push}
use Rattle.std.proofs.lemmas.Result.{err_from_is_err_and}
use Rattle.cutter.specs.Ordered.{IsPacketLong}
use Rattle.cutter.specs.Points.{mark}
use Rattle.cutter.specs.Stream.{is_packet}
use Rattle.cutter.specs.Reels.{Filled}
use Rattle.cutter.specs.Spooled.{Spooling, joined}
use Rattle.cutter.specs.SegmentState.{held_in, taken, Places}
use Rattle.cutter.proofs.Keeping.{few, push-lost, push-fault, push-scarce, push-closes, push-all, push-sound, push-keeps, read-of}
use Rattle.cutter.proofs.Sparing.{read-dropped, leaves-all, closes-none, closes-accepted, closes-goes, placed-accepted, placed-goes, brought-tables, dropped-sound, never-lost}
use Rattle.cutter.proofs.spool_cutter.SpoolCutter.push.Goals as goal

pub look_behind-requires : goal.look_behind-requires
look_behind-requires c = few c.self.inside c.args.self.now c.self.view_is (c.self.invariant.keeps c.if-self.false) c.requires

pub returns-in_err-look-clause-fault : goal.returns-in_err-look-clause-fault
returns-in_err-look-clause-fault c going =
    let told = err_from_is_err_and c.from_residual.result c.from_residual.ensures.1 in
    rw (told.1, told.2) (push-lost c.self.inside c.args.self.now c.args.packet.now c.new-arrival.result c.in_err-look.field-0.0 c.self.view_is (c.self.invariant.keeps c.if-self.false) c.new-arrival.ensures c.in_err-look.ensures.lost)

pub returns-in_err-closed-clause-fault : goal.returns-in_err-closed-clause-fault
returns-in_err-closed-clause-fault c going =
    let told = err_from_is_err_and c.from_residual-in_err-closed.result c.from_residual-in_err-closed.ensures.1 in
    let read = read-of c.self.inside c.args.packet.now c.new-arrival.result c.in_ok-look.look (held_in c.self.inside.going c.self.inside.reel) (option_copied c.tables.result) c.counted-counted.result
    c.new-arrival.ensures c.in_ok-look.ensures.look c.in_ok-look.ensures.kept refl c.tables.ensures c.counted-counted.ensures.is in
    rw (told.1, told.2) (push-fault c.self.inside c.args.self.now c.args.packet.now c.in_ok-look.look _ _ c.counted-counted.result c.in_err-closed.field-0.0 c.self.view_is
    (c.self.invariant.keeps c.if-self.false) read c.in_err-closed.ensures.err)

pub returns-in_err-closed-clause-scarce : goal.returns-in_err-closed-clause-scarce
returns-in_err-closed-clause-scarce c =
    let told = err_from_is_err_and c.from_residual-in_err-closed.result c.from_residual-in_err-closed.ensures.1 in
    let read = read-of c.self.inside c.args.packet.now c.new-arrival.result c.in_ok-look.look (held_in c.self.inside.going c.self.inside.reel) (option_copied c.tables.result) c.counted-counted.result
    c.new-arrival.ensures c.in_ok-look.ensures.look c.in_ok-look.ensures.kept refl c.tables.ensures c.counted-counted.ensures.is in
    rw (told.1, told.2) (push-scarce c.self.inside c.args.self.now c.args.packet.now c.in_ok-look.look _ _ c.counted-counted.result c.in_err-closed.field-0.0 c.self.view_is
    (c.self.invariant.keeps c.if-self.false) read c.in_err-closed.ensures.err)

pub returns-in_err-watch_or_reopen-clause-scarce : goal.returns-in_err-watch_or_reopen-clause-scarce
returns-in_err-watch_or_reopen-clause-scarce c =
    let told = err_from_is_err_and c.from_residual-in_err-watch_or_reopen.result c.from_residual-in_err-watch_or_reopen.ensures.1 in
    let read = read-of c.self.inside c.args.packet.now c.new-arrival.result c.in_ok-look.look (held_in c.self.inside.going c.self.inside.reel) (option_copied c.tables.result) c.counted-counted.result
    c.new-arrival.ensures c.in_ok-look.ensures.look c.in_ok-look.ensures.kept refl c.tables.ensures c.counted-counted.ensures.is in
    let sound = push-sound c.self.inside c.args.self.now c.args.packet.now c.in_ok-look.look _ _ _ c.counted-counted.result _ c.self.view_is (c.self.invariant.keeps c.if-self.false) read c.in_ok-closed.ensures.ok.going in
    rw (told.1, told.2, sound) (λ _. refl)

pub invariant_of-self-2 : goal.invariant_of-self-2
invariant_of-self-2 c =
    let read = read-of c.self.inside c.args.packet.now c.new-arrival.result c.in_ok-look.look (held_in c.self.inside.going c.self.inside.reel) (option_copied c.tables.result) c.counted-counted.result
    c.new-arrival.ensures c.in_ok-look.ensures.look c.in_ok-look.ensures.kept refl c.tables.ensures c.counted-counted.ensures.is in
    let out = taken c.self.inside.rendition c.self.inside.settings (held_in c.self.inside.going c.self.inside.reel) (option_copied c.tables.result) c.counted-counted.result (mark c.args.packet.now c.in_ok-look.look c.counted-counted.result) in
    let placed = subst (λ (after : Filled). Places out c.self.inside.reel after c.place.new.going c.in_ok-closed.closed) (sym c.in_ok-watch_or_reopen.ensures.same) c.in_ok-closed.ensures.ok in
    record {
      settings = c.self.invariant.settings;
      packets = subst (All IsPacketLong) (sym c.push.ensures) (All-push IsPacketLong c.self.inside.fed.items c.args.packet.now c.self.invariant.packets (search rules));
      keeps = λ _. push-keeps c.self.inside _ c.args.packet.now c.new-arrival.result c.in_ok-look.look _ _ c.counted-counted.result c.in_ok-closed.closed
          (c.self.invariant.keeps c.if-self.false) read placed c.new-arrival.ensures refl refl c.in_ok-watch_or_reopen.ensures.ok c.in_ok-look.ensures.pushed c.or-self-inside.ensures c.push.ensures refl;
    }

pub returns-clause-closes : goal.returns-clause-closes
returns-clause-closes c =
    let read = read-of c.self.inside c.args.packet.now c.new-arrival.result c.in_ok-look.look (held_in c.self.inside.going c.self.inside.reel) (option_copied c.tables.result) c.counted-counted.result
    c.new-arrival.ensures c.in_ok-look.ensures.look c.in_ok-look.ensures.kept refl c.tables.ensures c.counted-counted.ensures.is in
    let out = taken c.self.inside.rendition c.self.inside.settings (held_in c.self.inside.going c.self.inside.reel) (option_copied c.tables.result) c.counted-counted.result (mark c.args.packet.now c.in_ok-look.look c.counted-counted.result) in
    let placed = subst (λ (after : Filled). Places out c.self.inside.reel after c.place.new.going c.in_ok-closed.closed) (sym c.in_ok-watch_or_reopen.ensures.same) c.in_ok-closed.ensures.ok in
    push-closes c.self.inside c.args.self.now c.args.packet.now c.in_ok-look.look _ _ c.counted-counted.result _ _ _ c.self.view_is (c.self.invariant.keeps c.if-self.false) c.self.invariant.packets (search rules) read placed

pub returns-clause-all : goal.returns-clause-all
returns-clause-all c =
    let read = read-of c.self.inside c.args.packet.now c.new-arrival.result c.in_ok-look.look (held_in c.self.inside.going c.self.inside.reel) (option_copied c.tables.result) c.counted-counted.result
    c.new-arrival.ensures c.in_ok-look.ensures.look c.in_ok-look.ensures.kept refl c.tables.ensures c.counted-counted.ensures.is in
    let out = taken c.self.inside.rendition c.self.inside.settings (held_in c.self.inside.going c.self.inside.reel) (option_copied c.tables.result) c.counted-counted.result (mark c.args.packet.now c.in_ok-look.look c.counted-counted.result) in
    let placed = subst (λ (after : Filled). Places out c.self.inside.reel after c.place.new.going c.in_ok-closed.closed) (sym c.in_ok-watch_or_reopen.ensures.same) c.in_ok-closed.ensures.ok in
    let all = push-all c.self.inside c.args.self.now c.args.packet.now c.in_ok-look.look _ _ c.counted-counted.result c.watch_or_reopen.new.reel _ _ c.self.view_is (c.self.invariant.keeps c.if-self.false) read placed in
    ap (λ (v : Spooling). joined v.turned ++ c.watch_or_reopen.new.reel.plans) c.self.view_is ∙ all

pub returns-clause-sound : goal.returns-clause-sound
returns-clause-sound c =
    let read = read-of c.self.inside c.args.packet.now c.new-arrival.result c.in_ok-look.look (held_in c.self.inside.going c.self.inside.reel) (option_copied c.tables.result) c.counted-counted.result
    c.new-arrival.ensures c.in_ok-look.ensures.look c.in_ok-look.ensures.kept refl c.tables.ensures c.counted-counted.ensures.is in
    push-sound c.self.inside c.args.self.now c.args.packet.now c.in_ok-look.look _ _ _ c.counted-counted.result _ c.self.view_is (c.self.invariant.keeps c.if-self.false) read c.in_ok-closed.ensures.ok.going

pub returns-in_err-look-clause-dropped : goal.returns-in_err-look-clause-dropped
returns-in_err-look-clause-dropped c = λ is going. absurd (never-lost _ _ _ _ _ c.new-arrival.ensures is c.in_err-look.ensures.lost.1)

pub returns-in_err-closed-clause-dropped : goal.returns-in_err-closed-clause-dropped
returns-in_err-closed-clause-dropped c = λ is going.
    let read = read-of c.self.inside c.args.packet.now c.new-arrival.result c.in_ok-look.look (held_in c.self.inside.going c.self.inside.reel) (option_copied c.tables.result) c.counted-counted.result
    c.new-arrival.ensures c.in_ok-look.ensures.look c.in_ok-look.ensures.kept refl c.tables.ensures c.counted-counted.ensures.is in
    let unseen = read-dropped _ _ _ _ _ _ read is in
    let none = c.in_err-closed.ensures.none (leaves-all _ _ _ _ unseen.point unseen.adds) in
    absurd (none (dropped-sound c.self.inside c.args.packet.now c.in_ok-look.look _ _ c.counted-counted.result c.in_err-closed.field-0.0 (c.self.invariant.keeps c.if-self.false) read is c.in_err-closed.ensures.err))

pub returns-in_err-watch_or_reopen-clause-dropped : goal.returns-in_err-watch_or_reopen-clause-dropped
returns-in_err-watch_or_reopen-clause-dropped c = λ is going.
    absurd (false≢true (c.in_err-watch_or_reopen.ensures.none (ap is_packet c.new-arrival.ensures ∙ is)))

pub returns-clause-dropped : goal.returns-clause-dropped
returns-clause-dropped c = λ is going.
    let read = read-of c.self.inside c.args.packet.now c.new-arrival.result c.in_ok-look.look (held_in c.self.inside.going c.self.inside.reel) (option_copied c.tables.result) c.counted-counted.result
    c.new-arrival.ensures c.in_ok-look.ensures.look c.in_ok-look.ensures.kept refl c.tables.ensures c.counted-counted.ensures.is in
    let unseen = read-dropped _ _ _ _ _ _ read is in
    let none = closes-none c.self.inside.rendition c.self.inside.settings (held_in c.self.inside.going c.self.inside.reel) (option_copied c.tables.result) c.counted-counted.result (mark c.args.packet.now c.in_ok-look.look c.counted-counted.result) unseen.point in
    ap (λ closed. Ok closed) (c.in_ok-closed.ensures.ok.told ∙ ap is_some none)

pub returns-in_err-look-clause-memory : goal.returns-in_err-look-clause-memory
returns-in_err-look-clause-memory c =
    let told = err_from_is_err_and c.from_residual.result c.from_residual.ensures.1 in
    let limit = c.in_err-look.ensures.lost.0 in
    rw (told.1, told.2) (λ memory. absurd (cc))

pub returns-in_err-closed-clause-memory : goal.returns-in_err-closed-clause-memory
returns-in_err-closed-clause-memory c =
    let told = err_from_is_err_and c.from_residual-in_err-closed.result c.from_residual-in_err-closed.ensures.1 in
    let read = read-of c.self.inside c.args.packet.now c.new-arrival.result c.in_ok-look.look (held_in c.self.inside.going c.self.inside.reel) (option_copied c.tables.result) c.counted-counted.result
    c.new-arrival.ensures c.in_ok-look.ensures.look c.in_ok-look.ensures.kept refl c.tables.ensures c.counted-counted.ensures.is in
    rw (told.1, told.2) (λ memory. inl (placed-accepted c.self.inside c.args.self.now c.args.packet.now c.in_ok-look.look _ _ c.counted-counted.result c.in_err-closed.field-0.0 c.self.view_is
    (c.self.invariant.keeps c.if-self.false) read c.in_err-closed.ensures.none memory))

pub returns-in_err-watch_or_reopen-clause-memory : goal.returns-in_err-watch_or_reopen-clause-memory
returns-in_err-watch_or_reopen-clause-memory c =
    let told = err_from_is_err_and c.from_residual-in_err-watch_or_reopen.result c.from_residual-in_err-watch_or_reopen.ensures.1 in
    rw (told.1, told.2) (λ memory. inr (brought-tables c.self.inside c.args.self.now c.args.packet.now c.new-arrival.result c.self.view_is (c.self.invariant.keeps c.if-self.false) c.new-arrival.ensures
    c.in_err-watch_or_reopen.ensures.tables))

pub returns-in_err-look-clause-body : goal.returns-in_err-look-clause-body
returns-in_err-look-clause-body c =
    let told = err_from_is_err_and c.from_residual.result c.from_residual.ensures.1 in
    let limit = c.in_err-look.ensures.lost.0 in
    rw (told.1, told.2) (λ memory. absurd (cc))

pub returns-in_err-closed-clause-body : goal.returns-in_err-closed-clause-body
returns-in_err-closed-clause-body c =
    let told = err_from_is_err_and c.from_residual-in_err-closed.result c.from_residual-in_err-closed.ensures.1 in
    let read = read-of c.self.inside c.args.packet.now c.new-arrival.result c.in_ok-look.look (held_in c.self.inside.going c.self.inside.reel) (option_copied c.tables.result) c.counted-counted.result
    c.new-arrival.ensures c.in_ok-look.ensures.look c.in_ok-look.ensures.kept refl c.tables.ensures c.counted-counted.ensures.is in
    rw (told.1, told.2) (λ memory. inl (placed-goes c.self.inside c.args.self.now c.args.packet.now c.in_ok-look.look _ _ c.counted-counted.result c.in_err-closed.field-0.0 c.self.view_is
    (c.self.invariant.keeps c.if-self.false) read c.in_err-closed.ensures.none c.in_err-closed.ensures.err memory))

pub returns-in_err-watch_or_reopen-clause-body : goal.returns-in_err-watch_or_reopen-clause-body
returns-in_err-watch_or_reopen-clause-body c =
    let told = err_from_is_err_and c.from_residual-in_err-watch_or_reopen.result c.from_residual-in_err-watch_or_reopen.ensures.1 in
    rw (told.1, told.2) (λ memory. inr (brought-tables c.self.inside c.args.self.now c.args.packet.now c.new-arrival.result c.self.view_is (c.self.invariant.keeps c.if-self.false) c.new-arrival.ensures
    c.in_err-watch_or_reopen.ensures.tables))

pub returns-clause-next : goal.returns-clause-next
returns-clause-next c =
    let read = read-of c.self.inside c.args.packet.now c.new-arrival.result c.in_ok-look.look (held_in c.self.inside.going c.self.inside.reel) (option_copied c.tables.result) c.counted-counted.result
    c.new-arrival.ensures c.in_ok-look.ensures.look c.in_ok-look.ensures.kept refl c.tables.ensures c.counted-counted.ensures.is in
    closes-goes c.self.inside c.args.self.now c.args.packet.now c.in_ok-look.look _ _ c.counted-counted.result _ _ _ c.self.view_is (c.self.invariant.keeps c.if-self.false) read c.in_ok-closed.ensures.ok

pub returns-clause-accepted : goal.returns-clause-accepted
returns-clause-accepted c =
    let read = read-of c.self.inside c.args.packet.now c.new-arrival.result c.in_ok-look.look (held_in c.self.inside.going c.self.inside.reel) (option_copied c.tables.result) c.counted-counted.result
    c.new-arrival.ensures c.in_ok-look.ensures.look c.in_ok-look.ensures.kept refl c.tables.ensures c.counted-counted.ensures.is in
    closes-accepted c.self.inside c.args.self.now c.args.packet.now c.in_ok-look.look _ _ c.counted-counted.result c.in_ok-closed.closed c.self.view_is
    (c.self.invariant.keeps c.if-self.false) read c.in_ok-closed.ensures.ok.told

pub invariant_of-self : goal.invariant_of-self
invariant_of-self c = record {
  settings = c.self.invariant.settings;
  packets = c.self.invariant.packets;
  keeps = λ going. absurd (true≢false going);
}

pub invariant_of-self-in_err-closed : goal.invariant_of-self-in_err-closed
invariant_of-self-in_err-closed c = record {
  settings = c.self.invariant.settings;
  packets = c.self.invariant.packets;
  keeps = λ going. absurd (true≢false going);
}

pub invariant_of-self-in_err-watch_or_reopen : goal.invariant_of-self-in_err-watch_or_reopen
invariant_of-self-in_err-watch_or_reopen c = record {
  settings = c.self.invariant.settings;
  packets = c.self.invariant.packets;
  keeps = λ going. absurd (true≢false going);
}
