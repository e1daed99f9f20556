-- Lines of a playlist (RFC 8216, 4.1).
use Rattle.std.specs.Prelude.{ℕ, List, ◌++◌, codes}
use Rattle.std.specs.List.{flat_map}

-- a line with its LF
abbrev pub ended_line : List ℕ → List ℕ
ended_line line = line ++ codes "\n"

-- the text of some lines, each with its LF
unfoldable pub text_of : List (List ℕ) → List ℕ
text_of lines = flat_map ended_line lines
