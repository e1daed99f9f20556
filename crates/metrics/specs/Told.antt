-- What is told of renditions that a board shows.
use Rattle.std.specs.Prelude.{ℕ, ◌-◌, List, [], None, option_map, false, get_or}
use Rattle.live_board.specs.declared.totals.Totals.{Totals}
use Rattle.metrics.specs.Samples.{SampleFacts}
use Rattle.metrics.specs.Seens.{unseen}
use Rattle.metrics.specs.declared.glance.Glance.{Glance}
use Rattle.metrics.specs.declared.known.InputSample.{InputSample}
use Rattle.metrics.specs.declared.known.Known.{Known}

abbrev pub no_totals : Totals
no_totals = record { micros = 0; bytes = 0; peak = 0; average = 0 }

abbrev pub no_input : InputSample
no_input = record { ahead = 0; silent = 0 }

-- rendition r, of this name, as it was seen, with how long ago its last segment was seen first, how its input stands, and its fault
unfoldable pub told_of : List ℕ → Glance → Known → ℕ → ℕ → SampleFacts
told_of name glance known now r = record {
  name = name;
  segments = get_or glance.counts.items r 0;
  micros = (get_or glance.totals.items r no_totals).micros;
  bytes = (get_or glance.totals.items r no_totals).bytes;
  peak = (get_or glance.totals.items r no_totals).peak;
  average = (get_or glance.totals.items r no_totals).average;
  quiet = now - (get_or known.seen.now r unseen).at;
  ahead = (get_or known.inputs.now r no_input).ahead;
  silent = (get_or known.inputs.now r no_input).silent;
  ended = get_or glance.ended.items r false;
  fault = option_map (λ t. t.now) (get_or known.faults.now r None);
}

-- rendition r of renditions of these names
abbrev pub told_at : List (List ℕ) → Glance → Known → ℕ → ℕ → SampleFacts
told_at names glance known now r = told_of (get_or names r []) glance known now r
