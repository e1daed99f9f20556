-- A window that asks for all its rows has removed none.
use Rattle.std.proofs.Common.{◌≡◌, ℕ, inl, inr, List, length, drop, refl, arith}
use Rattle.std.specs.Prelude.{if◌then◌else◌}
use Rattle.std.proofs.lemmas.List.{length-drop}
use Rattle.media_playlist.specs.Rows.{SegmentRow}
use Rattle.media_playlist.specs.Listed.{first, first_listed}
use Rattle.media_playlist.proofs.Sufficing.{AreEnough-suffices}
use Rattle.media_playlist.proofs.Greatest.{first_listed-IsFirstListed}
use Rattle.ladder_items.specs.Ladder.{is_event, least_listed}
use Rattle.ladder_items.specs.declared.settings.Kind.{Kind}
use Rattle.ladder_items.specs.declared.settings.Kind.TheVariants.{Live, Event}
use Rattle.resume.specs.declared.restored.Wanted.{Wanted}
use Rattle.resume.specs.Restoring.{RestoredValue, window_over}

none_removed : (target : ℕ) (rows : List SegmentRow) → first_listed target (length rows) rows ≡ 0
none_removed target rows =
    let j = first_listed target (length rows) rows in
    let is = first_listed-IsFirstListed target (length rows) rows in
    elim is.leaves [
      | inl none ↦ none
      | inr passed ↦
          let enough = AreEnough-suffices target (length rows) (drop j rows) passed in
          omega (arith, enough.many, length-drop j rows, is.up_to)
    ]

none_of_kind : (kind : Kind) (target : ℕ) (rows : List SegmentRow) →
    (if is_event kind then 0 else first_listed target (least_listed kind (length rows)) rows) ≡ 0
none_of_kind Live target rows = none_removed target rows
none_of_kind Event target rows = refl

-- the window over earlier rows lists them all
pub first-zero : (name : List ℕ) (wanted : Wanted) (r : RestoredValue) → first (window_over name wanted r) ≡ 0
first-zero name wanted r = none_of_kind wanted.kind wanted.target r.earlier
