use Rattle.std.proofs.Common.{◌≡◌, ◌<◌, ◌≤◌, subst, sym, ap, ◌∙◌, ℕ, List, length, take, get_or}
use Rattle.std.proofs.lemmas.List.{take_all}
use Rattle.std.proofs.lemmas.Result.{err_from_is_err_and}
use Rattle.ladder_items.specs.Ladder.{Ladder, RenditionValue}
use Rattle.channel.specs.Reading.{names_of}
use Rattle.channel.specs.Rolling.{IsRollFault, RollsEach, RollsOne}
use Rattle.channel.specs.Views.{view_by_name}
use Rattle.channel.proofs.Rolls.{names-more, rolls-more, stops-at}
use Rattle.channel.proofs.rolling.roll_each.Goals as goal

pub loop-rendition-preserved : goal.loop-rendition-preserved
loop-rendition-preserved g c =
    let view = view_by_name g.F.FolderReader.lists g.F.FolderReader.gives g.F.FolderReader.lacks g.F.FolderReader.refuses g.F.FilesByName.shuts g.F.Folder.made in
    let rs = c.args.settings.now.renditions in
    let i = c.loop-rendition.rendition-index in
    let one = c.rendition-item.result in
    let same : c.deref-rendition-items.result.now ≡ rs = c.deref-rendition-items.ensures.value ∙ ap (λ (l : Ladder). l.renditions) c.settings.view_is in
    let lt : i < length rs = subst (λ (l : List RenditionValue). i < length l) same c.loop-rendition-test.true in
    let at : one ≡ get_or rs i one = subst (λ (l : List RenditionValue). one ≡ get_or l i one) same c.rendition-item.is in
    let name : c.as_str.result.now ≡ one.name = c.as_str.ensures.value ∙ ap (λ (r : RenditionValue). r.name) c.rendition.view_is in
    let rolled : RollsOne view one.name c.loop-rendition.folder c.roll_one.new.folder =
    subst (λ (n : List ℕ). RollsOne view n c.loop-rendition.folder c.roll_one.new.folder) name c.in_ok-roll_one.ensures.ok in
    record {
      rolls = subst (λ (l : List (List ℕ)). RollsEach view l c.args.folder.now c.roll_one.new.folder) (sym (names-more rs i one lt at))
          (rolls-more view (names_of (take i rs)) one.name c.args.folder.now c.loop-rendition.folder c.roll_one.new.folder c.loop-rendition.invariant.rolls rolled);
      pruned = c.in_ok-roll_one.ensures.pruned ∙ c.loop-rendition.invariant.pruned;
    }

pub returns-in_err-roll_one-clause-err : goal.returns-in_err-roll_one-clause-err
returns-in_err-roll_one-clause-err g c =
    let view = view_by_name g.F.FolderReader.lists g.F.FolderReader.gives g.F.FolderReader.lacks g.F.FolderReader.refuses g.F.FilesByName.shuts g.F.Folder.made in
    let rs = c.args.settings.now.renditions in
    let i = c.loop-rendition.rendition-index in
    let one = c.rendition-item.result in
    let same : c.deref-rendition-items.result.now ≡ rs = c.deref-rendition-items.ensures.value ∙ ap (λ (l : Ladder). l.renditions) c.settings.view_is in
    let lt : i < length rs = subst (λ (l : List RenditionValue). i < length l) same c.loop-rendition-test.true in
    let at : one ≡ get_or rs i one = subst (λ (l : List RenditionValue). one ≡ get_or l i one) same c.rendition-item.is in
    let name : c.as_str.result.now ≡ one.name = c.as_str.ensures.value ∙ ap (λ (r : RenditionValue). r.name) c.rendition.view_is in
    let stops : IsRollFault view one.name c.loop-rendition.folder c.roll_one.new.folder c.in_err-roll_one.field-0.0.fault =
    subst (λ (n : List ℕ). IsRollFault view n c.loop-rendition.folder c.roll_one.new.folder c.in_err-roll_one.field-0.0.fault) name c.in_err-roll_one.ensures.err in
    let told = err_from_is_err_and c.from_residual.result c.from_residual.ensures.1 in
    rw (told.1, told.2)
    (stops-at view rs i one c.args.folder.now c.loop-rendition.folder c.roll_one.new.folder c.in_err-roll_one.field-0.0.fault lt at c.loop-rendition.invariant.rolls stops)

pub returns-clause-ok : goal.returns-clause-ok
returns-clause-ok g c =
    let view = view_by_name g.F.FolderReader.lists g.F.FolderReader.gives g.F.FolderReader.lacks g.F.FolderReader.refuses g.F.FilesByName.shuts g.F.Folder.made in
    let rs = c.args.settings.now.renditions in
    let i = c.loop-rendition.rendition-index in
    let same : c.deref-rendition-items.result.now ≡ rs = c.deref-rendition-items.ensures.value ∙ ap (λ (l : Ladder). l.renditions) c.settings.view_is in
    let past : length rs ≤ i = subst (λ (l : List RenditionValue). length l ≤ i) same c.loop-rendition-test.false in
    subst (λ (l : List RenditionValue). RollsEach view (names_of l) c.args.folder.now c.loop-rendition.folder) (take_all i rs past) c.loop-rendition.invariant.rolls

pub returns-in_err-roll_one-clause-failed : goal.returns-in_err-roll_one-clause-failed
returns-in_err-roll_one-clause-failed g c =
    let told = err_from_is_err_and c.from_residual.result c.from_residual.ensures.1 in
    rw told.1 (λ is. c.in_err-roll_one.ensures.failed (cc (is, told.2)))
