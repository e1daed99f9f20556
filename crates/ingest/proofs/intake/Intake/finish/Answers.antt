use Rattle.std.proofs.lemmas.Result.{err_from_is_err_and}
use Rattle.std.proofs.Common.{refl, subst, List, ℕ, [], ◌∙◌, inl, inr, length, ap, arith}
use Rattle.ts_packet.specs.Packets.{packets}
use Rattle.ingest.proofs.Taking.{appended, faults-at-end, faults-behind, sound-end, grown-to-end, wants-behind}
use Rattle.std.proofs.lemmas.List.{append-nil}
use Rattle.ghost_list.specs.Lists.{IsBeginning}
use Rattle.ingest.specs.Streams.{closed_of, plans_of}
use Rattle.ingest.proofs.Ordered.{closed_of-begin}
use Rattle.ingest.proofs.Parting.{part-none, part-of-end, part-at-end}
use Rattle.ingest.proofs.intake.Intake.finish.Goals as goal

pub returns-in_err-push_all-clause-fault : goal.returns-in_err-push_all-clause-fault
returns-in_err-push_all-clause-fault c =
    let told = err_from_is_err_and c.from_residual-in_err-push_all.result c.from_residual-in_err-push_all.ensures.1 in
    let going = rw (← c.self.view_is) at c.requires.going in
    let grown = appended _ _ _ _ c.deref.result.now c.in_ok-skipped.ensures.packets c.clear.ensures.items c.deref.ensures.value in
    rw (told.1, told.2, ← c.self.view_is) (faults-at-end c.self.inside.ended c.self.inside.cutter c.self.inside.reader c.deref.result.now c.in_err-push_all.field-0.0 c.push_all.new.cutter.filled
    (c.self.invariant.list going) grown c.in_err-push_all.ensures.fault)

pub returns-in_err-finish-clause-fault : goal.returns-in_err-finish-clause-fault
returns-in_err-finish-clause-fault c =
    let told = err_from_is_err_and c.from_residual-in_err-finish.result c.from_residual-in_err-finish.ensures.1 in
    let going = rw (← c.self.view_is) at c.requires.going in
    let grown = appended _ _ _ _ c.deref.result.now c.in_ok-skipped.ensures.packets c.clear.ensures.items c.deref.ensures.value in
    rw (told.1, told.2, ← c.self.view_is) (faults-behind c.self.inside.ended c.self.inside.cutter c.push_all.new.cutter c.self.inside.reader c.deref.result.now c.in_err-finish.field-0.0 c.finish-2.new.self.filled
    (c.self.invariant.list going) grown (c.self.invariant.going going) c.in_ok-push_all.ensures.pushed c.in_ok-push_all.ensures.plans c.in_err-finish.ensures.fault c.in_err-finish.ensures.err)

pub returns-clause-sound : goal.returns-clause-sound
returns-clause-sound c =
    let going = rw (← c.self.view_is) at c.requires.going in
    let grown = appended _ _ _ _ c.deref.result.now c.in_ok-skipped.ensures.packets c.clear.ensures.items c.deref.ensures.value in
    rw (← c.self.view_is) (sound-end c.self.inside.cutter c.push_all.new.cutter c.self.inside.reader c.deref.result.now
    (c.self.invariant.list going) grown c.in_ok-push_all.ensures.pushed c.in_ok-finish.ensures.sound)

pub returns-clause-plans : goal.returns-clause-plans
returns-clause-plans c =
    let going = rw (← c.self.view_is) at c.requires.going in
    let grown = appended _ _ _ _ c.deref.result.now c.in_ok-skipped.ensures.packets c.clear.ensures.items c.deref.ensures.value in
    rw (← c.self.view_is) (grown-to-end c.self.inside.cutter c.push_all.new.cutter c.self.inside.reader c.deref.result.now _ c.finish-2.new.self.filled
    (c.self.invariant.list going) grown c.in_ok-push_all.ensures.pushed c.in_ok-push_all.ensures.plans c.in_ok-finish.ensures.closes)

pub returns-in_err-skipped-clause-scarce : goal.returns-in_err-skipped-clause-scarce
returns-in_err-skipped-clause-scarce c =
    let told = err_from_is_err_and c.from_residual.result c.from_residual.ensures.1 in
    let none = c.clear.new.self.ok.0 ∙ ap length c.clear.ensures.items in
    rw (told.1, told.2, ← c.self.view_is) (λ scarce. inl (omega (arith, c.in_err-skipped.ensures.room, none)))

pub returns-in_err-push_all-clause-scarce : goal.returns-in_err-push_all-clause-scarce
returns-in_err-push_all-clause-scarce c =
    let told = err_from_is_err_and c.from_residual-in_err-push_all.result c.from_residual-in_err-push_all.ensures.1 in
    let going = rw (← c.self.view_is) at c.requires.going in
    let grown = appended _ _ _ _ c.deref.result.now c.in_ok-skipped.ensures.packets c.clear.ensures.items c.deref.ensures.value in
    rw (told.1, told.2, ← c.self.view_is) (λ none. inr (inl (wants-behind c.self.inside.ended c.self.inside.cutter c.self.inside.reader (packets c.self.inside.reader) c.deref.result.now
    (c.self.invariant.list going) grown (c.in_err-push_all.ensures.scarce none))))

pub returns-in_err-finish-clause-scarce : goal.returns-in_err-finish-clause-scarce
returns-in_err-finish-clause-scarce c =
    let told = err_from_is_err_and c.from_residual-in_err-finish.result c.from_residual-in_err-finish.ensures.1 in
    let going = rw (← c.self.view_is) at c.requires.going in
    let grown = appended _ _ _ _ c.deref.result.now c.in_ok-skipped.ensures.packets c.clear.ensures.items c.deref.ensures.value in
    rw (told.1, told.2, ← c.self.view_is) (λ none. inr (inr (sound-end c.self.inside.cutter c.push_all.new.cutter c.self.inside.reader c.deref.result.now
    (c.self.invariant.list going) grown c.in_ok-push_all.ensures.pushed (c.in_err-finish.ensures.scarce none))))

pub returns-in_err-skipped-clause-part : goal.returns-in_err-skipped-clause-part
returns-in_err-skipped-clause-part c =
    let told = err_from_is_err_and c.from_residual.result c.from_residual.ensures.1 in
    let r = c.self.inside.cutter.rendition in
    let s = c.self.inside.cutter.settings in
    let stream = c.self.inside.reader in
    rw (told.1, ← c.self.view_is) (part-none _ _ _ _
    (subst (λ (l : List ℕ). IsBeginning (closed_of r s stream) (plans_of r s l)) (append-nil stream) (closed_of-begin r s stream [])) refl)

pub returns-in_err-push_all-clause-part : goal.returns-in_err-push_all-clause-part
returns-in_err-push_all-clause-part c =
    let told = err_from_is_err_and c.from_residual-in_err-push_all.result c.from_residual-in_err-push_all.ensures.1 in
    let going = rw (← c.self.view_is) at c.requires.going in
    let grown = appended _ _ _ _ c.deref.result.now c.in_ok-skipped.ensures.packets c.clear.ensures.items c.deref.ensures.value in
    rw (told.1, ← c.self.view_is) (part-of-end c.self.inside.cutter c.self.inside.reader c.deref.result.now c.push_all.new.cutter.filled
    (c.self.invariant.list going) grown c.in_err-push_all.ensures.part)

pub returns-in_err-finish-clause-part : goal.returns-in_err-finish-clause-part
returns-in_err-finish-clause-part c =
    let told = err_from_is_err_and c.from_residual-in_err-finish.result c.from_residual-in_err-finish.ensures.1 in
    let going = rw (← c.self.view_is) at c.requires.going in
    let grown = appended _ _ _ _ c.deref.result.now c.in_ok-skipped.ensures.packets c.clear.ensures.items c.deref.ensures.value in
    rw (told.1, ← c.self.view_is) (part-at-end c.self.inside.cutter c.push_all.new.cutter c.self.inside.reader c.deref.result.now c.finish-2.new.self.filled
    (c.self.invariant.list going) grown c.in_ok-push_all.ensures.plans c.in_err-finish.ensures.err)
