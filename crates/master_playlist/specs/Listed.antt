-- A variant, as it is listed.
use Rattle.std.specs.Prelude.{ℕ, List, []}

-- its name and codecs as bytes, its size in pixels, and rates in bits a second
pub record Listed : Type 0 where
  pub name : List ℕ
  pub codecs : List ℕ
  pub width : ℕ
  pub height : ℕ
  pub peak : ℕ
  pub average : ℕ
  pub frame_peak : ℕ
  pub frame_average : ℕ

-- what stands at a place of an array that isn't used
abbrev pub blank : Listed
blank = record { name = []; codecs = []; width = 0; height = 0; peak = 0; average = 0; frame_peak = 0; frame_average = 0 }
