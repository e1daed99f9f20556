-- What is asked of inputs that are read ahead, and what metrics tell of them.
use Rattle.std.specs.Prelude.{◌≡◌, ℕ, ◌*◌, ◌/◌, Bool, Option, option_map}
use Rattle.std.specs.Duration.{as_nanos}
use Rattle.std.specs.declared.time.Duration.{Duration}
use Rattle.metrics.specs.declared.known.InputSample.{InputSample}
use Rattle.read_ahead.specs.Shares.{room_for}
use Rattle.read_ahead.specs.declared.view.InputState.{InputState}

-- an input is read ahead as was asked: it is silent after so many seconds, and has its part of so many MiB, or what a plain file or another
-- input has where none are asked for
pub record IsAsAsked (stall ahead : Option ℕ) (inputs : ℕ) (silent : Option Duration) (is_file : Bool) (room : ℕ) : Type 0 where
  pub stall_is : option_map as_nanos silent ≡ option_map (λ seconds. seconds * 1_000_000_000) stall
  pub room_is : room ≡ room_for ahead inputs is_file

-- what metrics tell of an input that stands so: how much of it was read ahead, and for how many microseconds nothing came of it
abbrev pub input_sample : InputState → InputSample
input_sample state = record { ahead = state.bytes; silent = as_nanos state.silent / 1_000 }
