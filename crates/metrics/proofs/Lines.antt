-- The room that a line of a column takes.
use Rattle.std.proofs.Common.{◌≡◌, ℕ, ◌+◌, ◌<◌, ◌≤◌, ◌⊎◌, inl, inr, Any, List, length, take, get_or, map, ap, arith}
use Rattle.std.proofs.lemmas.List.Folds.{flat_map-map, length-flat_map-take}
use Rattle.metrics.specs.Format.{sample_line}
use Rattle.metrics.specs.Samples.{SampleFacts, IsShort, facts_of, value_of, column_text, fault_of, faults_text}
use Rattle.metrics.specs.declared.column.Column.{Column}
use Rattle.metrics.specs.declared.sample.Sample.{Sample}

-- where a line has no room behind those before it, the column has none
pub line-full : (name : List ℕ) (column : Column) (samples : List Sample) (i old len room now : ℕ) (d : Sample) → i < length samples
    → now ≡ len + length (column_text name column (map facts_of (take i samples))) → old ≤ room
    → room < now + length (sample_line name (facts_of (get_or samples i d)).name (value_of column (facts_of (get_or samples i d))))
    → old < len + length (column_text name column (map facts_of samples))
line-full name column samples i old len room now d within written grown full =
    let line = λ (s : SampleFacts). sample_line name s.name (value_of column s) in
    omega (
      arith,
      length-flat_map-take (λ (s : Sample). line (facts_of s)) samples i d within,
      ap length (flat_map-map line facts_of (take i samples)),
      ap length (flat_map-map line facts_of samples),
      written,
      grown,
      full,
    )

-- a text that is too short for some value was so before
pub short-by : (column : Column) (samples : List Sample) (old room : ℕ) → old ≤ room → Any (λ s. room < length (value_of column (facts_of s))) samples → IsShort old samples
short-by column samples old room grown short =
    (short.0, short.1, short.2, short.3, (column, omega (arith, grown, short.4)))

-- where a metric has no room among others, they have none
pub piece-full : (column : Column) (samples : List Sample) (old_room old_len room len piece whole old_text text : ℕ) → old_room ≤ room → old_text ≤ text → len + piece ≤ old_len + whole
    → (room < len + piece) ⊎ Any (λ s. text < length (value_of column (facts_of s))) samples → (old_room < old_len + whole) ⊎ IsShort old_text samples
piece-full column samples old_room old_len room len piece whole old_text text grown text_grown within (inl full) = inl (omega (arith, grown, within, full))
piece-full column samples old_room old_len room len piece whole old_text text grown text_grown within (inr short) = inr (short-by column samples old_text text text_grown short)

-- where the line of a fault has no room behind those before it, they have none
pub fault-full : (name : List ℕ) (samples : List Sample) (i old len room now : ℕ) (d : Sample) → i < length samples
    → now ≡ len + length (faults_text name (map facts_of (take i samples))) → old ≤ room
    → room < now + length (fault_of name (facts_of (get_or samples i d)).name (facts_of (get_or samples i d)).fault)
    → old < len + length (faults_text name (map facts_of samples))
fault-full name samples i old len room now d within written grown full =
    let line = λ (s : SampleFacts). fault_of name s.name s.fault in
    omega (
      arith,
      length-flat_map-take (λ (s : Sample). line (facts_of s)) samples i d within,
      ap length (flat_map-map line facts_of (take i samples)),
      ap length (flat_map-map line facts_of samples),
      written,
      grown,
      full,
    )
