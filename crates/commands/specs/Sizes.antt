-- Numbers and sizes, as words tell them.
use Rattle.std.specs.Prelude.{◌≡◌, ℕ, ◌==◌, ◌<◌, ◌^◌, List}
use Rattle.std.specs.List.{before_first, after_first}
use Rattle.std.specs.Str.Parse.{IsNumeral, digits_value, without_leading_plus}

-- a number below 2^64 in decimal digits, with a plus before them or without
pub record IsNumber (text : List ℕ) (n : ℕ) : Type 0 where
  pub digits : IsNumeral 10 (without_leading_plus text)
  pub value : n ≡ digits_value 10 (without_leading_plus text)
  pub small : n < 2 ^ 64

abbrev pub before_x : List ℕ → List ℕ
before_x text = before_first (λ b. b == 120) text

abbrev pub behind_x : List ℕ → List ℕ
behind_x text = after_first (λ b. b == 120) text

-- a number before the first x, and a number behind it
pub record IsSize (text : List ℕ) (width height : ℕ) : Type 0 where
  pub width_is : IsNumber (before_x text) width
  pub height_is : IsNumber (behind_x text) height

-- the text is a size
abbrev pub HasSize : List ℕ → Type 0
HasSize text = (width : ℕ) × (height : ℕ) × IsSize text width height
