use Rattle.std.proofs.Common.{◌∙◌, refl, ap, arith, length, length-append}
use Rattle.std.proofs.lemmas.Result.{err_from_is_err_and}
use Rattle.ingest.proofs.Ordered.{made_of-at}
use Rattle.flow_core.specs.Gatherings.{Gathering, awaited, missing_in}
use Rattle.ladder_items.proofs.Worlds.{InOrder, parts-of}
use Rattle.rounds.specs.Rounds.{gathered}
use Rattle.rounds.proofs.Rounding.{in-next, in-sealed, in-gave, in-ungiven, passed-gathered, passed-fewer, passed-missing, front-ready}
use Rattle.ladder_items.proofs.Unheld.{sudden-unheld}
use Rattle.rounds.proofs.round.machine.Round.give_next.Goals as goal

pub give_segment-requires-clause-next : goal.give_segment-requires-clause-next
give_segment-requires-clause-next g c =
    let some = c.requires.somewhere in
    let order : InOrder c.args.settings.now = λ stop r. made_of-at stop r c.args.settings.now.cut in
    (parts-of c.args.settings.now some.2.on.world.events, in-next _ _ _ _ _ some.0 some.1 _ _ _ some.2 order c.args.r c.in-Some.sealed c.in-Some.ensures.first, some.2.on.ends)

pub give_segment-requires-clause-sealed : goal.give_segment-requires-clause-sealed
give_segment-requires-clause-sealed g c =
    let some = c.requires.somewhere in
    let order : InOrder c.args.settings.now = λ stop r. made_of-at stop r c.args.settings.now.cut in
    in-sealed _ _ _ _ _ some.0 some.1 _ _ _ some.2 order c.args.r c.in-Some.sealed c.in-Some.ensures.first c.in-Some.ensures.sealed

pub returns-in_err-buffer-clause-err : goal.returns-in_err-buffer-clause-err
returns-in_err-buffer-clause-err g c =
    let order : InOrder c.args.settings.now = λ stop r. made_of-at stop r c.args.settings.now.cut in
    let told = err_from_is_err_and c.from_residual.result c.from_residual.ensures.1 in
    rw (told.1, told.2) (λ start unfed now.
    let at = c.in-Some.ensures.first in
    let next = in-next _ _ _ _ _ start unfed _ _ _ now order c.args.r c.in-Some.sealed at in
    in-ungiven _ _ _ _ _ start unfed _ _ _ now order c.args.r c.in-Some.sealed at _ _ _ (c.in_err-buffer.ensures.err (parts-of c.args.settings.now now.on.world.events) next)
    c.in_err-buffer.ensures.none_read c.in_err-buffer.ensures.board c.in_err-buffer.ensures.fault)

pub returns-clause-ok : goal.returns-clause-ok
returns-clause-ok g c start unfed now =
    let order : InOrder c.args.settings.now = λ stop r. made_of-at stop r c.args.settings.now.cut in
    let at = c.in-Some.ensures.first in
    let next = in-next _ _ _ _ _ start unfed _ _ _ now order c.args.r c.in-Some.sealed at in
    in-gave _ _ _ _ _ start unfed _ _ _ now order c.args.r c.in-Some.sealed at _ _ _ (c.in_ok-buffer.ensures.ok (parts-of c.args.settings.now now.on.world.events) next now.on.ends)
    c.in_ok-buffer.ensures.none_read c.in_ok-buffer.ensures.board c.in-Some.ensures.some

pub returns-clause-counts : goal.returns-clause-counts
returns-clause-counts g c = (
  ap (λ (x : Gathering). gathered x.sequences) c.in-Some.ensures.some ∙ passed-gathered c.args.self.now.collector c.args.r c.in-Some.sealed.plan c.in-Some.sealed c.in-Some.ensures.first,
  ap (λ (x : Gathering). length (missing_in x.sequences)) c.in-Some.ensures.some ∙ passed-missing c.args.self.now.collector c.args.r c.in-Some.sealed.plan c.in-Some.sealed c.in-Some.ensures.first,
  refl,
)

pub returns-clause-fewer : goal.returns-clause-fewer
returns-clause-fewer g c any =
    let now = ap (λ (x : Gathering). awaited x.sequences) c.in-Some.ensures.some in
    let less = passed-fewer c.args.self.now.collector c.args.r c.in-Some.sealed.plan c.in-Some.sealed c.in-Some.ensures.first in
    omega (arith, now, less)

pub returns-in_err-buffer-clause-unheld : goal.returns-in_err-buffer-clause-unheld
returns-in_err-buffer-clause-unheld g c =
    let told = err_from_is_err_and c.from_residual.result c.from_residual.ensures.1 in
    rw (told.1, told.2) (λ q n is. sudden-unheld _ _ _ q n c.in_err-buffer.ensures.fault is)

pub returns-in_err-buffer-clause-none : goal.returns-in_err-buffer-clause-none
returns-in_err-buffer-clause-none g c =
    let told = err_from_is_err_and c.from_residual.result c.from_residual.ensures.1 in
    rw told.1 (front-ready _ _ _ c.in-Some.ensures.first)

pub returns-clause-stood : goal.returns-clause-stood
returns-clause-stood g c any dry = front-ready _ _ _ c.in-Some.ensures.first dry

pub returns-in_err-buffer-clause-fell : goal.returns-in_err-buffer-clause-fell
returns-in_err-buffer-clause-fell g c =
    let told = err_from_is_err_and c.from_residual.result c.from_residual.ensures.1 in
    let now = ap (λ (x : Gathering). awaited x.sequences) c.in-Some.ensures.some in
    let less = passed-fewer c.args.self.now.collector c.args.r c.in-Some.sealed.plan c.in-Some.sealed c.in-Some.ensures.first in
    rw told.1 (omega (arith, now, less))

pub returns-clause-due : goal.returns-clause-due
returns-clause-due g c =
    let some = c.requires.somewhere in
    let order : InOrder c.args.settings.now = λ stop r. made_of-at stop r c.args.settings.now.cut in
    let next = in-next _ _ _ _ _ some.0 some.1 _ _ _ some.2 order c.args.r c.in-Some.sealed c.in-Some.ensures.first in
    let gave = c.in_ok-buffer.ensures.ok (parts-of c.args.settings.now some.2.on.world.events) next some.2.on.ends in
    let now = ap (λ (x : Gathering). awaited x.sequences) c.in-Some.ensures.some in
    let less = passed-fewer c.args.self.now.collector c.args.r c.in-Some.sealed.plan c.in-Some.sealed c.in-Some.ensures.first in
    let more = ap length gave.shows ∙ length-append c.args.self.now.broadcast.held.publisher.list _ in
    omega (arith, now, less, more)

pub returns-in_err-buffer-clause-short : goal.returns-in_err-buffer-clause-short
returns-in_err-buffer-clause-short g c =
    let told = err_from_is_err_and c.from_residual.result c.from_residual.ensures.1 in
    let some = c.requires.somewhere in
    let order : InOrder c.args.settings.now = λ stop r. made_of-at stop r c.args.settings.now.cut in
    let next = in-next _ _ _ _ _ some.0 some.1 _ _ _ some.2 order c.args.r c.in-Some.sealed c.in-Some.ensures.first in
    let gave = c.in_err-buffer.ensures.err (parts-of c.args.settings.now some.2.on.world.events) next in
    let less = passed-fewer c.args.self.now.collector c.args.r c.in-Some.sealed.plan c.in-Some.sealed c.in-Some.ensures.first in
    rw told.1 (omega (arith, less, ap length gave.unshown))

pub returns-in_err-buffer-clause-ok : goal.returns-in_err-buffer-clause-ok
returns-in_err-buffer-clause-ok g c =
    let told = err_from_is_err_and c.from_residual.result c.from_residual.ensures.1 in
    rw told.1 tt

pub returns-in_err-buffer-clause-due : goal.returns-in_err-buffer-clause-due
returns-in_err-buffer-clause-due g c =
    let told = err_from_is_err_and c.from_residual.result c.from_residual.ensures.1 in
    rw told.1 tt

pub returns-in_err-buffer-clause-counts : goal.returns-in_err-buffer-clause-counts
returns-in_err-buffer-clause-counts g c =
    let told = err_from_is_err_and c.from_residual.result c.from_residual.ensures.1 in
    rw told.1 tt

pub returns-in_err-buffer-clause-fewer : goal.returns-in_err-buffer-clause-fewer
returns-in_err-buffer-clause-fewer g c =
    let told = err_from_is_err_and c.from_residual.result c.from_residual.ensures.1 in
    rw told.1 tt

pub returns-in_err-buffer-clause-dry : goal.returns-in_err-buffer-clause-dry
returns-in_err-buffer-clause-dry g c =
    let told = err_from_is_err_and c.from_residual.result c.from_residual.ensures.1 in
    rw told.1 tt

pub returns-in_err-buffer-clause-stood : goal.returns-in_err-buffer-clause-stood
returns-in_err-buffer-clause-stood g c =
    let told = err_from_is_err_and c.from_residual.result c.from_residual.ensures.1 in
    rw told.1 tt

pub returns-in_err-buffer-clause-idle : goal.returns-in_err-buffer-clause-idle
returns-in_err-buffer-clause-idle g c =
    let told = err_from_is_err_and c.from_residual.result c.from_residual.ensures.1 in
    rw told.1 tt

pub returns-in_err-buffer-clause-others : goal.returns-in_err-buffer-clause-others
returns-in_err-buffer-clause-others g c =
    let told = err_from_is_err_and c.from_residual.result c.from_residual.ensures.1 in
    rw told.1 tt
