use Rattle.std.proofs.Common.{refl, ◌∙◌, ◌++◌, inl, inr, length, ap, sym, length-append, arith}
use Rattle.std.proofs.lemmas.Result.{err_from_is_err_and}
use Rattle.ts_packet.specs.Packets.{decided}
use Rattle.ingest.proofs.Taking.{lent-first, few-packets, faults-at, grown-to, no-room, wants-behind}
use Rattle.ingest.proofs.Ordered.{closed_of-grow}
use Rattle.ingest.proofs.Parting.{part-none, part-of-piece}
use Rattle.ingest.proofs.intake.Intake.take.Goals as goal

pub push_both-requires-clause-few : goal.push_both-requires-clause-few
push_both-requires-clause-few c =
    let going = rw (← c.self.view_is) at c.requires.going in
    let few = rw (← c.self.view_is) at c.requires.few in
    let is = c.self.invariant.list going in
    let next = c.self.inside.reader ++ c.args.piece.now in
    let more = c.in_ok-lent.lent.now ++ c.deref.result.now in
    let grown = ap decided (sym c.in_ok-lent.ensures.fed) ∙ lent-first _ _ _ _ _ c.deref.result.now c.in_ok-lent.ensures.packets c.clear.ensures.items c.deref.ensures.value in
    let all = few-packets c.self.inside.cutter.list more next (grown ∙ ap (λ list. list ++ more) (sym is))
    (c.decided_begin.ensures.begin next) (c.decided_begin.ensures.few next) (omega (arith, few, length-append c.self.inside.reader c.args.piece.now)) in
    omega (arith, all, length-append c.in_ok-lent.lent.now c.deref.result.now)

pub returns-in_err-push_both-clause-fault : goal.returns-in_err-push_both-clause-fault
returns-in_err-push_both-clause-fault c =
    let told = err_from_is_err_and c.from_residual-in_err-push_both.result c.from_residual-in_err-push_both.ensures.1 in
    let going = rw (← c.self.view_is) at c.requires.going in
    let next = c.self.inside.reader ++ c.args.piece.now in
    let more = c.in_ok-lent.lent.now ++ c.deref.result.now in
    let grown = ap decided (sym c.in_ok-lent.ensures.fed) ∙ lent-first _ _ _ _ _ c.deref.result.now c.in_ok-lent.ensures.packets c.clear.ensures.items c.deref.ensures.value in
    rw (told.1, told.2, ← c.self.view_is) (faults-at c.self.inside.ended c.self.inside.cutter c.self.inside.reader next more c.in_err-push_both.field-0.0 c.push_both.new.cutter.filled
    (c.self.invariant.list going) grown (c.decided_begin.ensures.begin next) (c.decided_begin.ensures.always next) c.in_err-push_both.ensures.fault)

pub returns-clause-plans : goal.returns-clause-plans
returns-clause-plans c =
    let going = rw (← c.self.view_is) at c.requires.going in
    let next = c.self.inside.reader ++ c.args.piece.now in
    let more = c.in_ok-lent.lent.now ++ c.deref.result.now in
    let grown = ap decided (sym c.in_ok-lent.ensures.fed) ∙ lent-first _ _ _ _ _ c.deref.result.now c.in_ok-lent.ensures.packets c.clear.ensures.items c.deref.ensures.value in
    rw (← c.self.view_is) (grown-to c.self.inside.cutter c.push_both.new.cutter c.self.inside.reader next more
    (c.self.invariant.list going) grown c.in_ok-push_both.ensures.plans)

pub returns-in_err-lent-clause-scarce : goal.returns-in_err-lent-clause-scarce
returns-in_err-lent-clause-scarce c =
    let told = err_from_is_err_and c.from_residual.result c.from_residual.ensures.1 in
    rw (told.1, told.2, ← c.self.view_is) (λ none. inl (no-room c.self.inside.reader c.args.piece.now _ _ (c.clear.new.self.ok.0 ∙ ap length c.clear.ensures.items) c.in_err-lent.ensures.behind))

pub returns-in_err-push_both-clause-scarce : goal.returns-in_err-push_both-clause-scarce
returns-in_err-push_both-clause-scarce c =
    let told = err_from_is_err_and c.from_residual-in_err-push_both.result c.from_residual-in_err-push_both.ensures.1 in
    let going = rw (← c.self.view_is) at c.requires.going in
    let next = c.self.inside.reader ++ c.args.piece.now in
    let more = c.in_ok-lent.lent.now ++ c.deref.result.now in
    let grown = ap decided (sym c.in_ok-lent.ensures.fed) ∙ lent-first _ _ _ _ _ c.deref.result.now c.in_ok-lent.ensures.packets c.clear.ensures.items c.deref.ensures.value in
    rw (told.1, told.2, ← c.self.view_is) (λ none. inr (wants-behind c.self.inside.ended c.self.inside.cutter c.self.inside.reader (decided next) more
    (c.self.invariant.list going) grown (c.in_err-push_both.ensures.scarce none)))

pub returns-in_err-lent-clause-part : goal.returns-in_err-lent-clause-part
returns-in_err-lent-clause-part c =
    let told = err_from_is_err_and c.from_residual.result c.from_residual.ensures.1 in
    rw (told.1, ← c.self.view_is) (part-none _ _ _ _ (closed_of-grow c.self.inside.cutter.rendition c.self.inside.cutter.settings c.self.inside.reader c.args.piece.now) refl)

pub returns-in_err-push_both-clause-part : goal.returns-in_err-push_both-clause-part
returns-in_err-push_both-clause-part c =
    let told = err_from_is_err_and c.from_residual-in_err-push_both.result c.from_residual-in_err-push_both.ensures.1 in
    let going = rw (← c.self.view_is) at c.requires.going in
    let next = c.self.inside.reader ++ c.args.piece.now in
    let more = c.in_ok-lent.lent.now ++ c.deref.result.now in
    let grown = ap decided (sym c.in_ok-lent.ensures.fed) ∙ lent-first _ _ _ _ _ c.deref.result.now c.in_ok-lent.ensures.packets c.clear.ensures.items c.deref.ensures.value in
    rw (told.1, ← c.self.view_is) (part-of-piece c.self.inside.cutter c.self.inside.reader next more c.push_both.new.cutter.filled
    (c.self.invariant.list going) grown c.in_err-push_both.ensures.part)
