-- The lines that tell what a ladder's run gave.
use Rattle.std.specs.Prelude.{◌≡◌, ℕ, List, [], ◌∷◌, ◌++◌}
use Rattle.std.specs.List.{flat_map}
use Rattle.std.specs.List.Sorted.{IsPermutation, IsSortedByKey, IsStableByKey}
use Rattle.std.specs.Cmp.Lexicographic.{slice_cmp}
use Rattle.std.specs.Fmt.{decimal}
use Rattle.std.specs.Ordering.{nat_cmp}
use Rattle.playlist_text.specs.Numbers.{seconds}
use Rattle.packing.specs.declared.summary_text.SummaryRow.{SummaryRow}

-- a rendition's name, how many segments it has, how many microseconds they last together, and their peak and average bit
-- rates
pub record Told : Type 0 where
  pub name : List ℕ
  pub count : ℕ
  pub micros : ℕ
  pub peak : ℕ
  pub average : ℕ

abbrev pub told_value : SummaryRow → Told
told_value row = record { name = row.name.now; count = row.count; micros = row.micros; peak = row.peak; average = row.average }

-- they in one line, with a blank between two
abbrev pub line_of : Told → List ℕ
line_of told = told.name ++ 32 ∷ decimal told.count ++ 32 ∷ seconds told.micros ++ 32 ∷ decimal told.peak ++ 32 ∷ decimal told.average ++ 10 ∷ []

-- names in byte order
abbrev pub AreByName : List Told → Type 0
AreByName tolds = IsSortedByKey (λ (told : Told). told.name) (slice_cmp nat_cmp) tolds

-- rows of one name stand in the order that they had
abbrev pub KeepTies : List SummaryRow → List SummaryRow → Type 0
KeepTies before now = IsStableByKey (λ (row : SummaryRow). row.name.now) (slice_cmp nat_cmp) before now

-- the lines of these, in byte order of their names
pub record AreLinesOf (tolds : List Told) (text : List ℕ) : Type 0 where
  pub rows : List Told
  pub same : IsPermutation tolds rows
  pub ascending : AreByName rows
  pub is : text ≡ flat_map line_of rows
