-- The metrics of a run.
use Rattle.std.specs.Prelude.{ℕ, ◌<◌, ◌⊎◌, length, List, ◌++◌, codes}
use Rattle.std.specs.Fmt.{decimal}
use Rattle.playlist_text.specs.Numbers.{seconds}
use Rattle.metrics.specs.Format.{head_text}
use Rattle.metrics.specs.Samples.{SampleFacts, column_text, faults_text}
use Rattle.metrics.specs.declared.column.Column.{Column}
use Rattle.metrics.specs.declared.column.Column.TheVariants.{Segments, Time, Bytes, Peak, Average, Quiet, Ahead, Silent, Ended}
use Rattle.metrics.specs.declared.sample.RunSample.{RunSample}

-- a metric with a sample of each rendition
unfoldable pub metric : List ℕ → List ℕ → List ℕ → Column → List SampleFacts → List ℕ
metric name kind help column samples = head_text name kind help ++ column_text name column samples

-- when the run began, in microseconds since 1970
unfoldable pub start_text : ℕ → List ℕ
start_text start =
    head_text (codes "tshls_start_time_seconds") (codes "gauge") (codes "When the run began, in seconds since 1970.")
    ++ codes "tshls_start_time_seconds " ++ seconds start ++ codes "\n"

-- a metric of the whole run
unfoldable pub run_metric : List ℕ → List ℕ → List ℕ → ℕ → List ℕ
run_metric name kind help value = head_text name kind help ++ name ++ codes " " ++ decimal value ++ codes "\n"

-- how many segments wait, and how many were removed
unfoldable pub segments_text : ℕ → ℕ → List ℕ
segments_text waiting removed =
    run_metric (codes "tshls_waiting_segments") (codes "gauge") (codes "Complete segments that are being encrypted and aren't listed yet.") waiting
    ++ run_metric (codes "tshls_removed_segments_total") (codes "counter") (codes "Segments that were removed.") removed

-- how the whole run stands
unfoldable pub run_text : RunSample → List ℕ
run_text run = start_text run.start ++ segments_text run.waiting run.removed

-- room for so many bytes is too little for some number of it
abbrev pub IsRunShort : ℕ → RunSample → Type 0
IsRunShort room run = (room < length (seconds run.start)) ⊎ (room < length (decimal run.waiting)) ⊎ (room < length (decimal run.removed))

-- what only grows
unfoldable pub counters : List SampleFacts → List ℕ
counters samples =
    metric (codes "tshls_segments_total") (codes "counter") (codes "Segments that were written and listed.") Segments samples
    ++ metric (codes "tshls_stream_seconds_total") (codes "counter") (codes "How long the segments last together.") Time samples
    ++ metric (codes "tshls_segment_bytes_total") (codes "counter") (codes "How many bytes the segments have together.") Bytes samples

-- the bit rates
unfoldable pub rates : List SampleFacts → List ℕ
rates samples =
    metric (codes "tshls_peak_bitrate") (codes "gauge") (codes "The peak bit rate that the master playlist lists, in bits per second.") Peak samples
    ++ metric (codes "tshls_average_bitrate") (codes "gauge") (codes "The average bit rate that the master playlist lists, in bits per second.") Average samples

-- how inputs stand
unfoldable pub inputs : List SampleFacts → List ℕ
inputs samples =
    metric (codes "tshls_read_ahead_bytes") (codes "gauge") (codes "Bytes of the input that were read ahead and aren't packed yet.") Ahead samples
    ++ metric (codes "tshls_input_silent_seconds") (codes "gauge") (codes "For how long nothing came of the input.") Silent samples

-- how renditions stand
unfoldable pub states : List SampleFacts → List ℕ
states samples =
    metric (codes "tshls_quiet_seconds") (codes "gauge") (codes "For how long no segment came.") Quiet samples
    ++ metric (codes "tshls_ended") (codes "gauge") (codes "Whether the end of the playlist was written.") Ended samples

-- the faults of renditions
unfoldable pub fault_text : List SampleFacts → List ℕ
fault_text samples =
    head_text (codes "tshls_fault") (codes "gauge") (codes "1 for a rendition that ended by a fault.")
    ++ faults_text (codes "tshls_fault") samples

-- all metrics of a run
abbrev pub metrics_text : RunSample → List SampleFacts → List ℕ
metrics_text run samples = run_text run ++ counters samples ++ rates samples ++ inputs samples ++ states samples ++ fault_text samples
