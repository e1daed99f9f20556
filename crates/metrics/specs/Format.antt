-- Texts of metrics: Prometheus, exposition formats, text format 0.0.4.
use Rattle.std.specs.Prelude.{ℕ, List, [], ◌∷◌, ◌++◌, ◌==◌, if◌then◌else◌, codes}
use Rattle.std.specs.List.{flat_map}

-- In the value of a label a backslash, a quotation mark and a line feed have a backslash before them, the line feed as `n`.
abbrev pub escaped_byte : ℕ → List ℕ
escaped_byte byte =
    if byte == 92 then 92 ∷ 92 ∷ [] else if byte == 34 then 92 ∷ 34 ∷ [] else if byte == 10 then 92 ∷ 110 ∷ [] else byte ∷ []

abbrev pub escaped : List ℕ → List ℕ
escaped text = flat_map escaped_byte text

-- the two lines before the samples of a metric: what help says of it, and its type
unfoldable pub head_text : List ℕ → List ℕ → List ℕ → List ℕ
head_text name kind help =
    codes "# HELP " ++ name ++ codes " " ++ help ++ codes "\n# TYPE " ++ name ++ codes " " ++ kind ++ codes "\n"

-- a sample of a rendition
unfoldable pub sample_line : List ℕ → List ℕ → List ℕ → List ℕ
sample_line name rendition value =
    name ++ codes "{rendition=\"" ++ escaped rendition ++ codes "\"} " ++ value ++ codes "\n"

-- a sample of a rendition that has a fault
unfoldable pub fault_line : List ℕ → List ℕ → List ℕ → List ℕ
fault_line name rendition fault =
    name ++ codes "{rendition=\"" ++ escaped rendition ++ codes "\",fault=\"" ++ escaped fault ++ codes "\"} 1\n"
