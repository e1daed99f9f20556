-- The end of a segment's line.
use Rattle.std.proofs.Common.{◌≡◌, ℕ, List, ◌++◌, Option, Some, None, true, false, Bool, refl, sym, ◌∙◌}
use Rattle.std.specs.Prelude.{codes, if◌then◌else◌}
use Rattle.std.specs.Option.{option_and_then}
use Rattle.std.specs.Str.{bytes_eq}
use Rattle.std.specs.Fmt.{decimal}
use Rattle.std.proofs.lemmas.Bool.{false≢true}
use Rattle.std.proofs.lemmas.Bool.Decides.{Decides-eqb}
use Rattle.std.proofs.lemmas.Slice.Eq.{bytes_eq-Decides, ends_is}
use Rattle.playlist_text.specs.Uris.{escaped, segment_uri}
use Rattle.media_reading.specs.State.{Progress, ends_segment, expect, listed, number_left, with_entry}

segment-ends : (name : List ℕ) (n : ℕ) (line : List ℕ) → line ≡ segment_uri name n → ends_segment line ≡ true
unfolding segment_uri
segment-ends name n line is = (ends_is Decides-eqb line (codes ".ts") (ends_segment line) refl).1 (escaped name ++ codes "." ++ decimal n) is

unended-by : (p : Progress) (n : ℕ) (line name : List ℕ) (b : Bool) → bytes_eq line (segment_uri name n) ≡ b → ends_segment line ≡ false
    → (if b then Some (with_entry p n) else None) ≡ None
unended-by p n line name false is other = refl
unended-by p n line name true is other =
    absurd (false≢true (sym other ∙ segment-ends name n line ((bytes_eq-Decides line (segment_uri name n)).0 is)))

unended-name : (p : Progress) (n : ℕ) (line : List ℕ) (o : Option (List ℕ)) → ends_segment line ≡ false
    → option_and_then (λ name. expect line (segment_uri name n) (with_entry p n)) o ≡ None
unended-name p n line None other = refl
unended-name p n line (Some name) other = unended-by p n line name (bytes_eq line (segment_uri name n)) refl other

unended-left : (p : Progress) (line : List ℕ) (o : Option ℕ) → ends_segment line ≡ false
    → option_and_then (λ n. option_and_then (λ name. expect line (segment_uri name n) (with_entry p n)) p.name) o ≡ None
unended-left p line None other = refl
unended-left p line (Some n) other = unended-name p n line p.name other

-- a line that ends otherwise is that of no segment
pub unended : (p : Progress) (line : List ℕ) → ends_segment line ≡ false → listed p line ≡ None
unfolding listed
unended p line other = unended-left p line (number_left p) other
