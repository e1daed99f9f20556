use Rattle.rounds.specs.Showing.{ends_of}
use Rattle.std.proofs.Common.{◌≡◌, ◌∙◌, ◌<◌, ◌≤◌, List, [], Bool, true, false, refl, ap, sym, arith, length}
use Rattle.std.specs.List.{slice_index_or}
use Rattle.std.proofs.lemmas.List.{length-map, nil_from_length, get_or_default, get_or-set_same, get_or-set_other}
use Rattle.std.proofs.lemmas.Option.{slice_get_read, same_Some}
use Rattle.std.proofs.lemmas.Result.{err_from_is_err_and}
use Rattle.ingest.specs.declared.lane.Lane.{Lane}
use Rattle.ingest.specs.Lanes.{is_good}
use Rattle.ladder_items.specs.Items.{Part}
use Rattle.ladder_items.specs.Weave.{End}
use Rattle.ladder_items.proofs.Worlds.{parts-of, parts-length}
use Rattle.rounds.proofs.Steps.{ends-end}
use Rattle.rounds.proofs.Running.{stage-of, is-going, on-gave, on-ungiven}
use Rattle.rounds.proofs.Closing.{beq-same, beq-apart, not-ended, end-due, end-moved, end-begins}
use Rattle.ladder_items.proofs.Unheld.{sudden-unheld}
use Rattle.rounds.proofs.giving.broadcast.Broadcast.give_end_of.Goals as goal

pub index-requires : goal.index-requires
index-requires g c =
    let on = c.requires.on.1 in
    let parts = parts-of c.args.settings.now on.world.events in
    omega (arith, c.requires.within, ap length on.ends, length-map parts (λ (part : Part). part.ended), parts-length c.args.settings.now on.world.events)

pub returns-then-is_good-index-clause-ended : goal.returns-then-is_good-index-clause-ended
returns-then-is_good-index-clause-ended g c lane at filled =
    let r = c.args.r in
    let ended = c.args.self.now.course.ended.items in
    let inside : r < length ended = omega (arith, c.requires.within, ap length c.requires.on.1.ends, length-map (parts-of c.args.settings.now c.requires.on.1.world.events) (λ (part : Part). part.ended), parts-length c.args.settings.now c.requires.on.1.world.events) in
    let at0 = slice_get_read c.args.self.now.course.lanes.items _ r c.index-lane.result.now refl (omega (arith, c.requires.within, c.requires.on.1.world.same_lanes)) c.index-lane.ensures in
    let here : slice_index_or ended r false ≡ c.index.result.now = get_or_default ended r false c.index.result.now inside ∙ sym c.index.ensures in
    let same : c.index-lane.result.now ≡ lane = same_Some _ _ (sym at0 ∙ at) in
    here ∙ (sym (beq-same _ _ c.if-is_good-index.true) ∙ (c.is_good.ensures ∙ ap (λ (l : Lane). is_good l.stop) same))

pub give_its_end-requires-clause-next : goal.give_its_end-requires-clause-next
give_its_end-requires-clause-next g c =
    let r = c.args.r in
    let ended = c.args.self.now.course.ended.items in
    let inside : r < length ended = omega (arith, c.requires.within, ap length c.requires.on.1.ends, length-map (parts-of c.args.settings.now c.requires.on.1.world.events) (λ (part : Part). part.ended), parts-length c.args.settings.now c.requires.on.1.world.events) in
    let at0 = slice_get_read c.args.self.now.course.lanes.items _ r c.index-lane.result.now refl (omega (arith, c.requires.within, c.requires.on.1.world.same_lanes)) c.index-lane.ensures in
    let here : slice_index_or ended r false ≡ c.index.result.now = get_or_default ended r false c.index.result.now inside ∙ sym c.index.ensures in
    let empty : length c.index-lane.result.now.intake.filled ≤ 0 = omega (arith, c.plans.ensures, c.if-plans-gt0.false) in
    let differs : is_good c.index-lane.result.now.stop ≡ slice_index_or ended r false → ⊥ = λ e. beq-apart _ _ c.if-is_good-index.false (c.is_good.ensures ∙ (e ∙ here)) in
    let some = c.requires.on in
    let due = end-due _ _ _ _ _ some.0 _ _ some.1 r c.requires.within c.index-lane.result.now at0 empty differs in
    (parts-of c.args.settings.now some.1.world.events, is-going _ _ _ _ _ some.0 _ _ (λ k. []) some.1 r c.requires.within due.0, some.1.ends)

pub returns-in_err-give_its_end-clause-err : goal.returns-in_err-give_its_end-clause-err
returns-in_err-give_its_end-clause-err g c =
    let told = err_from_is_err_and c.from_residual.result c.from_residual.ensures.1 in
    let r = c.args.r in
    let ended = c.args.self.now.course.ended.items in
    let inside : r < length ended = omega (arith, c.requires.within, ap length c.requires.on.1.ends, length-map (parts-of c.args.settings.now c.requires.on.1.world.events) (λ (part : Part). part.ended), parts-length c.args.settings.now c.requires.on.1.world.events) in
    let at0 = slice_get_read c.args.self.now.course.lanes.items _ r c.index-lane.result.now refl (omega (arith, c.requires.within, c.requires.on.1.world.same_lanes)) c.index-lane.ensures in
    let here : slice_index_or ended r false ≡ c.index.result.now = get_or_default ended r false c.index.result.now inside ∙ sym c.index.ensures in
    let empty : length c.index-lane.result.now.intake.filled ≤ 0 = omega (arith, c.plans.ensures, c.if-plans-gt0.false) in
    let differs : is_good c.index-lane.result.now.stop ≡ slice_index_or ended r false → ⊥ = λ e. beq-apart _ _ c.if-is_good-index.false (c.is_good.ensures ∙ (e ∙ here)) in
    rw (told.1, told.2) (λ start on.
    let due = end-due _ _ _ _ _ start _ _ on r c.requires.within c.index-lane.result.now at0 empty differs in
    let s = stage-of _ _ _ _ _ start _ _ (λ k. []) on r c.requires.within in
    on-ungiven _ _ _ _ _ start r _ _ _ _ (λ k. []) (End r) s.2 _ on s.3 refl due.0
    (c.in_err-give_its_end.ensures.err (parts-of c.args.settings.now on.world.events) (is-going _ _ _ _ _ start _ _ (λ k. []) on r c.requires.within due.0))
    c.in_err-give_its_end.ensures.none_read c.in_err-give_its_end.ensures.board (end-begins _ _ _ _ _ start _ _ on r c.requires.within due.1 due.2) c.in_err-give_its_end.ensures.fault)

pub returns-clause-ok : goal.returns-clause-ok
returns-clause-ok g c start on =
    let r = c.args.r in
    let ended = c.args.self.now.course.ended.items in
    let inside : r < length ended = omega (arith, c.requires.within, ap length c.requires.on.1.ends, length-map (parts-of c.args.settings.now c.requires.on.1.world.events) (λ (part : Part). part.ended), parts-length c.args.settings.now c.requires.on.1.world.events) in
    let at0 = slice_get_read c.args.self.now.course.lanes.items _ r c.index-lane.result.now refl (omega (arith, c.requires.within, c.requires.on.1.world.same_lanes)) c.index-lane.ensures in
    let here : slice_index_or ended r false ≡ c.index.result.now = get_or_default ended r false c.index.result.now inside ∙ sym c.index.ensures in
    let empty : length c.index-lane.result.now.intake.filled ≤ 0 = omega (arith, c.plans.ensures, c.if-plans-gt0.false) in
    let differs : is_good c.index-lane.result.now.stop ≡ slice_index_or ended r false → ⊥ = λ e. beq-apart _ _ c.if-is_good-index.false (c.is_good.ensures ∙ (e ∙ here)) in
    let due = end-due _ _ _ _ _ start _ _ on r c.requires.within c.index-lane.result.now at0 empty differs in
    let s = stage-of _ _ _ _ _ start _ _ (λ k. []) on r c.requires.within in
    (on-gave _ _ _ _ _ start r _ _ _ _ (λ k. []) (λ k. []) (End r) s.2 on s.3 refl due.0
    (c.in_ok-give_its_end.ensures.ok (parts-of c.args.settings.now on.world.events) (is-going _ _ _ _ _ start _ _ (λ k. []) on r c.requires.within due.0) on.ends)
    c.in_ok-give_its_end.ensures.none_read c.in_ok-give_its_end.ensures.board (end-moved _ _ _ _ _ start _ _ on r c.requires.within due.1 due.2) (λ k other. refl)).0

pub returns-clause-ended : goal.returns-clause-ended
returns-clause-ended g c lane at filled =
    let r = c.args.r in
    let ended = c.args.self.now.course.ended.items in
    let inside : r < length ended = omega (arith, c.requires.within, ap length c.requires.on.1.ends, length-map (parts-of c.args.settings.now c.requires.on.1.world.events) (λ (part : Part). part.ended), parts-length c.args.settings.now c.requires.on.1.world.events) in
    let at0 = slice_get_read c.args.self.now.course.lanes.items _ r c.index-lane.result.now refl (omega (arith, c.requires.within, c.requires.on.1.world.same_lanes)) c.index-lane.ensures in
    let here : slice_index_or ended r false ≡ c.index.result.now = get_or_default ended r false c.index.result.now inside ∙ sym c.index.ensures in
    let empty : length c.index-lane.result.now.intake.filled ≤ 0 = omega (arith, c.plans.ensures, c.if-plans-gt0.false) in
    let differs : is_good c.index-lane.result.now.stop ≡ slice_index_or ended r false → ⊥ = λ e. beq-apart _ _ c.if-is_good-index.false (c.is_good.ensures ∙ (e ∙ here)) in
    let some = c.requires.on in
    let on = some.1 in
    let parts = parts-of c.args.settings.now on.world.events in
    let due = end-due _ _ _ _ _ some.0 _ _ some.1 r c.requires.within c.index-lane.result.now at0 empty differs in
    let gave = c.in_ok-give_its_end.ensures.ok parts (is-going _ _ _ _ _ some.0 _ _ (λ k. []) on r c.requires.within due.0) on.ends in
    let now = gave.ends ∙ ends-end parts r in
    let same : c.index-lane.result.now ≡ lane = same_Some _ _ (sym at0 ∙ at) in
    let size : r < length (ends_of parts) = omega (arith, inside, ap length on.ends) in
    ap (λ (l : List Bool). slice_index_or l r false) now ∙ (get_or-set_same (ends_of parts) r true false size ∙ sym (ap (λ (l : Lane). is_good l.stop) (sym same) ∙ due.3))

pub returns-clause-others : goal.returns-clause-others
returns-clause-others g c k other =
    let r = c.args.r in
    let ended = c.args.self.now.course.ended.items in
    let inside : r < length ended = omega (arith, c.requires.within, ap length c.requires.on.1.ends, length-map (parts-of c.args.settings.now c.requires.on.1.world.events) (λ (part : Part). part.ended), parts-length c.args.settings.now c.requires.on.1.world.events) in
    let at0 = slice_get_read c.args.self.now.course.lanes.items _ r c.index-lane.result.now refl (omega (arith, c.requires.within, c.requires.on.1.world.same_lanes)) c.index-lane.ensures in
    let here : slice_index_or ended r false ≡ c.index.result.now = get_or_default ended r false c.index.result.now inside ∙ sym c.index.ensures in
    let empty : length c.index-lane.result.now.intake.filled ≤ 0 = omega (arith, c.plans.ensures, c.if-plans-gt0.false) in
    let differs : is_good c.index-lane.result.now.stop ≡ slice_index_or ended r false → ⊥ = λ e. beq-apart _ _ c.if-is_good-index.false (c.is_good.ensures ∙ (e ∙ here)) in
    let some = c.requires.on in
    let on = some.1 in
    let parts = parts-of c.args.settings.now on.world.events in
    let due = end-due _ _ _ _ _ some.0 _ _ some.1 r c.requires.within c.index-lane.result.now at0 empty differs in
    let gave = c.in_ok-give_its_end.ensures.ok parts (is-going _ _ _ _ _ some.0 _ _ (λ k. []) on r c.requires.within due.0) on.ends in
    let now = gave.ends ∙ ends-end parts r in
    ap (λ (l : List Bool). slice_index_or l k false) now ∙ (get_or-set_other (ends_of parts) r k true false other ∙ ap (λ (l : List Bool). slice_index_or l k false) (sym on.ends))

pub returns-in_err-give_its_end-clause-unheld : goal.returns-in_err-give_its_end-clause-unheld
returns-in_err-give_its_end-clause-unheld g c =
    let told = err_from_is_err_and c.from_residual.result c.from_residual.ensures.1 in
    rw (told.1, told.2) (λ q n is. sudden-unheld _ _ _ q n c.in_err-give_its_end.ensures.fault is)

pub returns-in_err-give_its_end-clause-none : goal.returns-in_err-give_its_end-clause-none
returns-in_err-give_its_end-clause-none g c =
    let told = err_from_is_err_and c.from_residual.result c.from_residual.ensures.1 in
    let r = c.args.r in
    let ended = c.args.self.now.course.ended.items in
    let inside : r < length ended = omega (arith, c.requires.within, ap length c.requires.on.1.ends, length-map (parts-of c.args.settings.now c.requires.on.1.world.events) (λ (part : Part). part.ended), parts-length c.args.settings.now c.requires.on.1.world.events) in
    let at0 = slice_get_read c.args.self.now.course.lanes.items _ r c.index-lane.result.now refl (omega (arith, c.requires.within, c.requires.on.1.world.same_lanes)) c.index-lane.ensures in
    let here : slice_index_or ended r false ≡ c.index.result.now = get_or_default ended r false c.index.result.now inside ∙ sym c.index.ensures in
    let empty : length c.index-lane.result.now.intake.filled ≤ 0 = omega (arith, c.plans.ensures, c.if-plans-gt0.false) in
    let differs : is_good c.index-lane.result.now.stop ≡ slice_index_or ended r false → ⊥ = λ e. beq-apart _ _ c.if-is_good-index.false (c.is_good.ensures ∙ (e ∙ here)) in
    let some = c.requires.on in
    let due = end-due _ _ _ _ _ some.0 _ _ some.1 r c.requires.within c.index-lane.result.now at0 empty differs in
    rw told.1 (λ lane at.
    let same : c.index-lane.result.now ≡ lane = same_Some _ _ (sym at0 ∙ at) in (
      ap (λ (l : Lane). is_good l.stop) (sym same) ∙ due.3,
      ap (λ (l : Lane). l.intake.filled) (sym same) ∙ nil_from_length c.index-lane.result.now.intake.filled (omega (arith, empty)),
      not-ended _ _ due.3 differs,
    ))

pub returns-in_err-give_its_end-clause-unshown : goal.returns-in_err-give_its_end-clause-unshown
returns-in_err-give_its_end-clause-unshown g c =
    let told = err_from_is_err_and c.from_residual.result c.from_residual.ensures.1 in
    let r = c.args.r in
    let ended = c.args.self.now.course.ended.items in
    let inside : r < length ended = omega (arith, c.requires.within, ap length c.requires.on.1.ends, length-map (parts-of c.args.settings.now c.requires.on.1.world.events) (λ (part : Part). part.ended), parts-length c.args.settings.now c.requires.on.1.world.events) in
    let at0 = slice_get_read c.args.self.now.course.lanes.items _ r c.index-lane.result.now refl (omega (arith, c.requires.within, c.requires.on.1.world.same_lanes)) c.index-lane.ensures in
    let here : slice_index_or ended r false ≡ c.index.result.now = get_or_default ended r false c.index.result.now inside ∙ sym c.index.ensures in
    let empty : length c.index-lane.result.now.intake.filled ≤ 0 = omega (arith, c.plans.ensures, c.if-plans-gt0.false) in
    let differs : is_good c.index-lane.result.now.stop ≡ slice_index_or ended r false → ⊥ = λ e. beq-apart _ _ c.if-is_good-index.false (c.is_good.ensures ∙ (e ∙ here)) in
    let some = c.requires.on in
    let due = end-due _ _ _ _ _ some.0 _ _ some.1 r c.requires.within c.index-lane.result.now at0 empty differs in
    let gave = c.in_err-give_its_end.ensures.err (parts-of c.args.settings.now some.1.world.events) (is-going _ _ _ _ _ some.0 _ _ (λ k. []) some.1 r c.requires.within due.0) in
    rw told.1 gave.unshown

pub returns-in_err-give_its_end-clause-ok : goal.returns-in_err-give_its_end-clause-ok
returns-in_err-give_its_end-clause-ok g c =
    let told = err_from_is_err_and c.from_residual.result c.from_residual.ensures.1 in
    rw told.1 tt

pub returns-in_err-give_its_end-clause-ended : goal.returns-in_err-give_its_end-clause-ended
returns-in_err-give_its_end-clause-ended g c =
    let told = err_from_is_err_and c.from_residual.result c.from_residual.ensures.1 in
    rw told.1 tt

pub returns-in_err-give_its_end-clause-others : goal.returns-in_err-give_its_end-clause-others
returns-in_err-give_its_end-clause-others g c =
    let told = err_from_is_err_and c.from_residual.result c.from_residual.ensures.1 in
    rw told.1 tt
