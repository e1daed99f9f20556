-- What watches a run.
use Rattle.std.proofs.Common.{◌≡◌, ◌∙◌, ◌↔◌, ◌++◌, ℕ, All, Contains, List, Option, None, Some, ap, append_assoc, option_map, refl, subst, sym}
use Rattle.std.proofs.lemmas.List.Elements.{All-contains}
use Rattle.ghost_list.specs.Lists.{IsBeginning}
use Rattle.ladder_items.specs.declared.fault.PackFault.{PackFault}
use Rattle.live_board.specs.Snapshots.{Known, SnapshotFacts}
use Rattle.read_ahead.specs.declared.view.InputsView.{InputsView}
use Rattle.program.specs.LadderRuns.{IsWatched, ShowsAll}
use Rattle.program.specs.Metered.{IsLastLook, IsWriterFor}
use Rattle.program.specs.declared.told.Tellings.{Tellings}
use Rattle.program.specs.declared.metrics_writer.Writer.{Writer}
use Rattle.program.specs.declared.told_unwritten.ToldUnwritten.{ToldUnwritten}
use Rattle.program.specs.declared.watching.LastLook.{LastLook}
use Rattle.program.specs.declared.watching.RunLook.{RunLook}
use Rattle.program.specs.declared.watching.RunLook.TheVariants as look
use Rattle.program.specs.declared.watching.RunWatch.{RunWatch}
use Rattle.program.specs.declared.watching.RunWatch.TheVariants.{Runs, Unasked, Unwritten}
use Rattle.program.specs.declared.watching.Watching.{Watching}

pub writer-for : {names more : List (List ℕ)} {path : List ℕ} {view : Option InputsView} {told kept : Tellings} {writer : Writer} →
    IsWriterFor names path view told writer → told ≡ kept → names ≡ more → IsWriterFor more path view kept writer
writer-for is keeps same = record {
  names_are = rw same at is.names_are;
  seen_is = rw same at is.seen_is;
  path_is = is.path_is;
  inputs_are = is.inputs_are;
  told_is = rw keeps at is.told_is;
  untold = is.untold;
}

-- a run was watched as its watch was begun, and ended
pub watched-by : {X : Type 0} (path : X → List ℕ) (file : Option X) (names : List (List ℕ)) (inputs : ℕ) (view : Option InputsView) (kept : Tellings)
    (shown : List SnapshotFacts) (last : Option PackFault) (watch : RunWatch) (at_end : RunLook) →
    (watch ≡ Unasked → file ≡ None) → (file ≡ None → watch ≡ Unasked) → ShowsAll inputs view →
    ((to : X) (w : Watching) → file ≡ Some to → watch ≡ Runs w → IsWriterFor names (path to) view kept w.thread.promise.writer.value) →
    (watch ≡ Unasked ↔ at_end ≡ look.Unasked) → ((told : ToldUnwritten) → watch ≡ Unwritten told → at_end ≡ look.Unwritten told) →
    ((w : Watching) → watch ≡ Runs w → (seen : LastLook) × (at_end ≡ look.Last seen) × IsLastLook w.thread.promise.writer.value shown last seen) →
    IsWatched names inputs (option_map path file) kept shown last at_end
watched-by path None names inputs view kept shown last watch at_end asked unasked all begun none told ended =
    subst (λ l. IsWatched names inputs None kept shown last l) (sym (none.0 (unasked refl))) refl
watched-by path (Some to) names inputs view kept shown last Unasked at_end asked unasked all begun none told ended = absurd (cc (asked refl))
watched-by path (Some to) names inputs view kept shown last (Unwritten by) at_end asked unasked all begun none told ended =
    subst (λ l. IsWatched names inputs (Some (path to)) kept shown last l) (sym (told by refl)) refl
watched-by path (Some to) names inputs view kept shown last (Runs w) at_end asked unasked all begun none told ended =
    let r = ended w refl in
    subst (λ l. IsWatched names inputs (Some (path to)) kept shown last l) (sym r.1) (view, w.thread.promise.writer.value, all, begun to w refl refl, r.2)

-- who looks through a viewer of a board looks at that board
pub looks-at : (viewers : List Known) (viewer board : Known) → Contains viewers viewer → All (λ v. v ≡ board) viewers → viewer.board ≡ board.board
looks-at viewers viewer board has all = ap (λ (k : Known). k.board) (All-contains (λ v. v ≡ board) viewers viewer all has)

-- what a list begins with that begins another, the other begins with too
pub begins-both : {X : Type 0} (front mid whole : List X) → IsBeginning front mid → IsBeginning mid whole → IsBeginning front whole
begins-both {X} front mid whole one two = (one.0 ++ two.0, two.1 ∙ ap (λ (l : List X). l ++ two.0) one.1 ∙ append_assoc front one.0 two.0)
