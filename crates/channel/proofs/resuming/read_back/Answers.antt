use Rattle.std.proofs.Common.{arith, refl, ◌≡◌, ◌∙◌, sym, ap, subst, List, Option, length}
use Rattle.std.proofs.lemmas.Result.{err_from_is_err_and}
use Rattle.ladder_items.specs.declared.settings.Kind.{Kind}
use Rattle.ladder_items.specs.Ladder.{Ladder, RenditionValue}
use Rattle.resume.specs.Restoring.{RestoredValue}
use Rattle.channel_folder.specs.declared.asked.Asked.{Asked}
use Rattle.channel_folder.specs.Reopened.{AreReopened, ReopenedValue}
use Rattle.channel_folder.specs.Shut.{CannotRead}
use Rattle.channel_folder.specs.Stopped.{IsNotReopened}
use Rattle.channel.specs.Looking.{AllKeysOpen, IsLookFault, TakeTurns}
use Rattle.channel.specs.Reading.{IsReopenedFor}
use Rattle.channel.specs.Views.{view_by_name}
use Rattle.channel.proofs.Whole.{asks-count, not-opened, not-reopened, reopened-count, reopened-turns}
use Rattle.channel.proofs.resuming.read_back.Goals as goal

pub returns-in_err-reopened-clause-err : goal.returns-in_err-reopened-clause-err
returns-in_err-reopened-clause-err g c =
    let view = view_by_name g.F.FolderReader.lists g.F.FolderReader.gives g.F.FolderReader.lacks g.F.FolderReader.refuses g.F.FilesByName.shuts g.F.Folder.made in
    let ladder = c.args.settings.now in
    let Shut = CannotRead (g.F.FolderReader.refuses c.args.folder.now) (g.F.FilesByName.shuts c.args.folder.now) in
    let Gives = g.F.FolderReader.gives c.args.folder.now in
    let Lacks = g.F.FolderReader.lacks c.args.folder.now in
    let fault = c.in_err-reopened.field-0.0 in
    let kind : c.settings.inside.kind ≡ ladder.kind = ap (λ (l : Ladder). l.kind) c.settings.view_is in
    let is : IsNotReopened Shut Gives Lacks c.args.scan.now ladder.kind c.in_ok-asked.asked.items fault =
    subst (λ (k : Kind). IsNotReopened Shut Gives Lacks c.args.scan.now k c.in_ok-asked.asked.items fault) kind
    (subst (λ (l : List Asked). IsNotReopened Shut Gives Lacks c.args.scan.now c.settings.inside.kind l fault) c.deref.ensures.value c.in_err-reopened.ensures.err) in
    let told = err_from_is_err_and c.from_residual-in_err-reopened.result c.from_residual-in_err-reopened.ensures.1 in
    rw (told.1, told.2) (not-reopened view ladder c.args.folder.now c.args.scan.now c.in_ok-asked.asked.items fault c.in_ok-asked.ensures.ok is)

pub look_at_keys-requires-clause-each : goal.look_at_keys-requires-clause-each
look_at_keys-requires-clause-each g c =
    let view = view_by_name g.F.FolderReader.lists g.F.FolderReader.gives g.F.FolderReader.lacks g.F.FolderReader.refuses g.F.FilesByName.shuts g.F.Folder.made in
    let ladder = c.args.settings.now in
    let Shut = CannotRead (g.F.FolderReader.refuses c.args.folder.now) (g.F.FilesByName.shuts c.args.folder.now) in
    let Gives = g.F.FolderReader.gives c.args.folder.now in
    let Lacks = g.F.FolderReader.lacks c.args.folder.now in
    let reopened = c.in_ok-reopened.reopened in
    let kind : c.settings.inside.kind ≡ ladder.kind = ap (λ (l : Ladder). l.kind) c.settings.view_is in
    let are : AreReopened Gives Lacks c.args.scan.now ladder.kind c.in_ok-asked.asked.items reopened =
    subst (λ (k : Kind). AreReopened Gives Lacks c.args.scan.now k c.in_ok-asked.asked.items reopened) kind
    (subst (λ (l : List Asked). AreReopened Gives Lacks c.args.scan.now c.settings.inside.kind l reopened) c.deref.ensures.value c.in_ok-reopened.ensures.ok) in
    let all : IsReopenedFor view c.args.folder.now ladder c.args.scan.now reopened = record { asked = c.in_ok-asked.asked.items; asks = c.in_ok-asked.ensures.ok; are = are } in
    let renditions : c.deref-2.result.now ≡ ladder.renditions = c.deref-2.ensures.value ∙ ap (λ (l : Ladder). l.renditions) c.settings.view_is in
    let found : c.deref-3.result.now ≡ reopened.found = c.deref-3.ensures.value ∙ ap (λ (r : ReopenedValue). r.found) c.reopened.view_is in
    ap (λ (l : List (Option RestoredValue)). length l) found ∙ reopened-count view ladder c.args.folder.now c.args.scan.now reopened all
    ∙ sym (ap (λ (l : List RenditionValue). length l) renditions)

pub look_at_keys-requires-clause-turns : goal.look_at_keys-requires-clause-turns
look_at_keys-requires-clause-turns g c =
    let view = view_by_name g.F.FolderReader.lists g.F.FolderReader.gives g.F.FolderReader.lacks g.F.FolderReader.refuses g.F.FilesByName.shuts g.F.Folder.made in
    let ladder = c.args.settings.now in
    let Shut = CannotRead (g.F.FolderReader.refuses c.args.folder.now) (g.F.FilesByName.shuts c.args.folder.now) in
    let Gives = g.F.FolderReader.gives c.args.folder.now in
    let Lacks = g.F.FolderReader.lacks c.args.folder.now in
    let reopened = c.in_ok-reopened.reopened in
    let kind : c.settings.inside.kind ≡ ladder.kind = ap (λ (l : Ladder). l.kind) c.settings.view_is in
    let are : AreReopened Gives Lacks c.args.scan.now ladder.kind c.in_ok-asked.asked.items reopened =
    subst (λ (k : Kind). AreReopened Gives Lacks c.args.scan.now k c.in_ok-asked.asked.items reopened) kind
    (subst (λ (l : List Asked). AreReopened Gives Lacks c.args.scan.now c.settings.inside.kind l reopened) c.deref.ensures.value c.in_ok-reopened.ensures.ok) in
    let all : IsReopenedFor view c.args.folder.now ladder c.args.scan.now reopened = record { asked = c.in_ok-asked.asked.items; asks = c.in_ok-asked.ensures.ok; are = are } in
    let renditions : c.deref-2.result.now ≡ ladder.renditions = c.deref-2.ensures.value ∙ ap (λ (l : Ladder). l.renditions) c.settings.view_is in
    let found : c.deref-3.result.now ≡ reopened.found = c.deref-3.ensures.value ∙ ap (λ (r : ReopenedValue). r.found) c.reopened.view_is in
    subst (λ (l : List (Option RestoredValue)). TakeTurns l) (sym found) (reopened-turns view ladder c.args.folder.now c.args.scan.now reopened all)

pub returns-in_err-look_at_keys-clause-err : goal.returns-in_err-look_at_keys-clause-err
returns-in_err-look_at_keys-clause-err g c =
    let view = view_by_name g.F.FolderReader.lists g.F.FolderReader.gives g.F.FolderReader.lacks g.F.FolderReader.refuses g.F.FilesByName.shuts g.F.Folder.made in
    let ladder = c.args.settings.now in
    let Shut = CannotRead (g.F.FolderReader.refuses c.args.folder.now) (g.F.FilesByName.shuts c.args.folder.now) in
    let Gives = g.F.FolderReader.gives c.args.folder.now in
    let Lacks = g.F.FolderReader.lacks c.args.folder.now in
    let reopened = c.in_ok-reopened.reopened in
    let kind : c.settings.inside.kind ≡ ladder.kind = ap (λ (l : Ladder). l.kind) c.settings.view_is in
    let are : AreReopened Gives Lacks c.args.scan.now ladder.kind c.in_ok-asked.asked.items reopened =
    subst (λ (k : Kind). AreReopened Gives Lacks c.args.scan.now k c.in_ok-asked.asked.items reopened) kind
    (subst (λ (l : List Asked). AreReopened Gives Lacks c.args.scan.now c.settings.inside.kind l reopened) c.deref.ensures.value c.in_ok-reopened.ensures.ok) in
    let all : IsReopenedFor view c.args.folder.now ladder c.args.scan.now reopened = record { asked = c.in_ok-asked.asked.items; asks = c.in_ok-asked.ensures.ok; are = are } in
    let renditions : c.deref-2.result.now ≡ ladder.renditions = c.deref-2.ensures.value ∙ ap (λ (l : Ladder). l.renditions) c.settings.view_is in
    let found : c.deref-3.result.now ≡ reopened.found = c.deref-3.ensures.value ∙ ap (λ (r : ReopenedValue). r.found) c.reopened.view_is in
    let fault = c.in_err-look_at_keys.field-0.0.fault in
    let look : IsLookFault Shut Gives Lacks ladder.renditions reopened.found fault =
    subst (λ (l : List RenditionValue). IsLookFault Shut Gives Lacks l reopened.found fault) renditions
    (subst (λ (l : List (Option RestoredValue)). IsLookFault Shut Gives Lacks c.deref-2.result.now l fault) found c.in_err-look_at_keys.ensures.err) in
    let told = err_from_is_err_and c.from_residual-in_err-look_at_keys.result c.from_residual-in_err-look_at_keys.ensures.1 in
    rw (told.1, told.2) (not-opened view ladder c.args.folder.now c.args.scan.now reopened fault all look)

pub returns-clause-ok : goal.returns-clause-ok
returns-clause-ok g c =
    let view = view_by_name g.F.FolderReader.lists g.F.FolderReader.gives g.F.FolderReader.lacks g.F.FolderReader.refuses g.F.FilesByName.shuts g.F.Folder.made in
    let ladder = c.args.settings.now in
    let Shut = CannotRead (g.F.FolderReader.refuses c.args.folder.now) (g.F.FilesByName.shuts c.args.folder.now) in
    let Gives = g.F.FolderReader.gives c.args.folder.now in
    let Lacks = g.F.FolderReader.lacks c.args.folder.now in
    let reopened = c.in_ok-reopened.reopened in
    let kind : c.settings.inside.kind ≡ ladder.kind = ap (λ (l : Ladder). l.kind) c.settings.view_is in
    let are : AreReopened Gives Lacks c.args.scan.now ladder.kind c.in_ok-asked.asked.items reopened =
    subst (λ (k : Kind). AreReopened Gives Lacks c.args.scan.now k c.in_ok-asked.asked.items reopened) kind
    (subst (λ (l : List Asked). AreReopened Gives Lacks c.args.scan.now c.settings.inside.kind l reopened) c.deref.ensures.value c.in_ok-reopened.ensures.ok) in
    let all : IsReopenedFor view c.args.folder.now ladder c.args.scan.now reopened = record { asked = c.in_ok-asked.asked.items; asks = c.in_ok-asked.ensures.ok; are = are } in
    let renditions : c.deref-2.result.now ≡ ladder.renditions = c.deref-2.ensures.value ∙ ap (λ (l : Ladder). l.renditions) c.settings.view_is in
    let found : c.deref-3.result.now ≡ reopened.found = c.deref-3.ensures.value ∙ ap (λ (r : ReopenedValue). r.found) c.reopened.view_is in
    let keys : AllKeysOpen Gives ladder.renditions reopened.found =
    subst (λ (l : List RenditionValue). AllKeysOpen Gives l reopened.found) renditions
    (subst (λ (l : List (Option RestoredValue)). AllKeysOpen Gives c.deref-2.result.now l) found c.in_ok-look_at_keys.ensures.ok) in
    record { all = all; keys = keys }

pub returns-in_err-reopened-clause-none : goal.returns-in_err-reopened-clause-none
returns-in_err-reopened-clause-none g c = λ _.
    let asked = c.in_ok-asked.asked.items in
    omega (arith, c.in_err-reopened.ensures.none refl, ap length c.deref.ensures.value, asks-count c.args.settings.now asked c.in_ok-asked.ensures.ok)

pub returns-in_err-look_at_keys-clause-none : goal.returns-in_err-look_at_keys-clause-none
returns-in_err-look_at_keys-clause-none g c = λ _.
    let renditions : c.deref-2.result.now ≡ c.args.settings.now.renditions = c.deref-2.ensures.value ∙ ap (λ (l : Ladder). l.renditions) c.settings.view_is in
    omega (arith, c.in_err-look_at_keys.ensures.none refl, ap length renditions)
