-- The number in the line of a key.
use Rattle.std.proofs.Common.{◌≡◌, ℕ, List, ◌++◌, Option, Some, None, true, false, refl, sym, ap, ◌∙◌, append_assoc}
use Rattle.std.specs.Prelude.{is_some, not, ◌==◌, ◌||◌, codes, option_map}
use Rattle.std.specs.Option.{option_and_then}
use Rattle.std.proofs.lemmas.Bool.{false≢true}
use Rattle.std.proofs.lemmas.Bool.Decides.{Decides-eqb}
use Rattle.std.proofs.lemmas.Slice.Eq.{bytes_eq-Decides, starts_is}
use Rattle.std.specs.Fmt.{decimal}
use Rattle.playlist_text.specs.Attributes.{quoted, hexadecimal, attribute_list}
use Rattle.playlist_text.specs.Uris.{escaped, key_uri}
use Rattle.playlist_text.specs.Vectors.{salted_vector}
use Rattle.playlist_text.specs.MediaLines.{key_line, vector_key_line, key_line_under}
use Rattle.media_reading.specs.State.{Progress, begins_key, key_begin, key_end, key_in, keyed, keyed_by, keyed_first, name_in, number_left, salt_in, where_so, with_key}
use Rattle.media_reading.proofs.Found.{found-none}

-- what stands before the number
abbrev pub key_front : List ℕ → List ℕ
key_front name = key_begin ++ escaped name ++ codes "."

pub key_line_under-parts : (name : List ℕ) (salt : Option (List ℕ)) (n key : ℕ) → key_line_under name salt n key ≡ key_front name ++ decimal key ++ key_end salt n
unfolding key_line vector_key_line attribute_list quoted key_uri
key_line_under-parts name None n key =
    ap (λ x. key_begin ++ x) (append_assoc (escaped name ++ codes "." ++ decimal key) (codes ".key") (codes "\""))
key_line_under-parts name (Some salt) n key =
    let uri = escaped name ++ codes "." ++ decimal key in
    let vector = codes ",IV=" ++ hexadecimal (salted_vector (Some salt) n) in
    ap (λ x. key_begin ++ x) (append_assoc (uri ++ codes ".key") (codes "\"") vector ∙ append_assoc uri (codes ".key") (codes "\"" ++ vector))

-- the line of a key begins so
key-begins : (name : List ℕ) (salt : Option (List ℕ)) (n key : ℕ) (line : List ℕ) → line ≡ key_line_under name salt n key → begins_key line ≡ true
key-begins name salt n key line is =
    let rest = decimal key ++ key_end salt n in
    (starts_is Decides-eqb line key_begin (begins_key line) refl).1 (escaped name ++ (codes "." ++ rest))
    (is ∙ key_line_under-parts name salt n key ∙ append_assoc (key_front name) (decimal key) (key_end salt n)
    ∙ append_assoc (key_begin ++ escaped name) (codes ".") rest ∙ append_assoc key_begin (escaped name) (codes "." ++ rest))

-- one that begins otherwise is none
unbegun-key : (name : List ℕ) (salt : Option (List ℕ)) (n : ℕ) (line : List ℕ) → begins_key line ≡ false → key_in name salt n line ≡ None
unbegun-key name salt n line other =
    found-none _ 4096 (λ k small same.
    false≢true (sym other ∙ key-begins name salt n k line ((bytes_eq-Decides line (key_line_under name salt n k)).0 same)))

unbegun-salted : (p : Progress) (n : ℕ) (line name : List ℕ) (o : Option (Option (List ℕ))) → begins_key line ≡ false
    → option_and_then (λ salt. option_map (with_key p name salt) (key_in name salt n line)) o ≡ None
unbegun-salted p n line name None other = refl
unbegun-salted p n line name (Some salt) other = ap (option_map (with_key p name salt)) (unbegun-key name salt n line other)

unbegun-first : (p : Progress) (n : ℕ) (line : List ℕ) (o : Option (List ℕ)) → begins_key line ≡ false → option_and_then (keyed_first p n line) o ≡ None
unbegun-first p n line None other = refl
unbegun-first p n line (Some name) other = unbegun-salted p n line name (salt_in n line) other

unbegun-by : (p : Progress) (n : ℕ) (line : List ℕ) (o : Option (List ℕ)) → begins_key line ≡ false → keyed_by o p n line ≡ None
unbegun-by p n line None other = unbegun-first p n line (name_in line) other
unbegun-by p n line (Some name) other =
    ap (option_and_then (λ key. where_so (is_some p.salt || not (key == p.key)) (with_key p name p.salt key))) (unbegun-key name p.salt n line other)

unbegun-left : (p : Progress) (line : List ℕ) (o : Option ℕ) → begins_key line ≡ false → option_and_then (λ n. keyed_by p.name p n line) o ≡ None
unbegun-left p line None other = refl
unbegun-left p line (Some n) other = unbegun-by p n line p.name other

pub unbegun : (p : Progress) (line : List ℕ) → begins_key line ≡ false → keyed p line ≡ None
unfolding keyed
unbegun p line other = unbegun-left p line (number_left p) other
