-- What is told of a rendition, and the samples of all of them.
use Rattle.std.specs.Prelude.{ℕ, ◌<◌, Any, length, Bool, true, false, List, [], Option, Some, None, option_map}
use Rattle.std.specs.Fmt.{decimal}
use Rattle.std.specs.List.{flat_map}
use Rattle.playlist_text.specs.Numbers.{seconds}
use Rattle.metrics.specs.Format.{sample_line, fault_line}
use Rattle.metrics.specs.declared.sample.Sample.{Sample}
use Rattle.metrics.specs.declared.column.Column.{Column}
use Rattle.metrics.specs.declared.column.Column.TheVariants.{Segments, Time, Bytes, Peak, Average, Quiet, Ahead, Silent, Ended}

-- a rendition's name, its segments, their microseconds and their bytes together, their bit rates as listed, for how many
-- microseconds none came, how many bytes of its input were read ahead, for how many microseconds none came of it, whether its end was
-- written, and its fault
pub record SampleFacts : Type 0 where
  pub name : List ℕ
  pub segments : ℕ
  pub micros : ℕ
  pub bytes : ℕ
  pub peak : ℕ
  pub average : ℕ
  pub quiet : ℕ
  pub ahead : ℕ
  pub silent : ℕ
  pub ended : Bool
  pub fault : Option (List ℕ)

abbrev pub facts_of : Sample → SampleFacts
facts_of s = record {
  name = s.name.now;
  segments = s.segments;
  micros = s.micros;
  bytes = s.bytes;
  peak = s.peak;
  average = s.average;
  quiet = s.quiet;
  ahead = s.ahead;
  silent = s.silent;
  ended = s.ended;
  fault = option_map (λ t. t.now) s.fault;
}

abbrev pub flag : Bool → ℕ
flag true = 1
flag false = 0

-- its value: a time in seconds with six digits behind the point, any other number without a point
abbrev pub value_of : Column → SampleFacts → List ℕ
value_of Segments s = decimal s.segments
value_of Time s = seconds s.micros
value_of Bytes s = decimal s.bytes
value_of Peak s = decimal s.peak
value_of Average s = decimal s.average
value_of Quiet s = seconds s.quiet
value_of Ahead s = decimal s.ahead
value_of Silent s = seconds s.silent
value_of Ended s = decimal (flag s.ended)

-- a sample of each rendition
abbrev pub column_text : List ℕ → Column → List SampleFacts → List ℕ
column_text name column samples = flat_map (λ s. sample_line name s.name (value_of column s)) samples

-- one of a rendition that has a fault
abbrev pub fault_of : List ℕ → List ℕ → Option (List ℕ) → List ℕ
fault_of name rendition None = []
fault_of name rendition (Some fault) = fault_line name rendition fault

abbrev pub faults_text : List ℕ → List SampleFacts → List ℕ
faults_text name samples = flat_map (λ s. fault_of name s.name s.fault) samples

-- room for so many bytes is too little for some number of a sample
abbrev pub IsShort : ℕ → List Sample → Type 0
IsShort room samples = Any (λ s. (column : Column) × (room < length (value_of column (facts_of s)))) samples
