-- How long the texts of lines are.
use Rattle.std.proofs.Common.{Bor, refl, ◌≡◌, ℕ, ◌+◌, ◌≤◌, List, [], ◌∷◌, ◌++◌, length, length-append, ap, ◌∙◌, arith}
use Rattle.std.specs.Prelude.{Option, Result, Ok, Err, OnErr, false}
use Rattle.std.proofs.lemmas.List.Elements.{All-nil, All-cons}
use Rattle.playlist_text.specs.AttributeValues.{is_hexadecimal, HaveNoHexadecimal}
use Rattle.playlist_text.specs.declared.attribute.Attribute.{Attribute}
use Rattle.playlist_text.specs.declared.attribute.Value.TheVariants.{Enumerated, Quoted}
use Rattle.playlist_text.specs.Lines.{text_of}
use Rattle.playlist_text.specs.Uris.{segment_uri}
use Rattle.playlist_text.specs.MediaLines.{Entry, discontinuity_lines, entry_key_lines, duration_line, entry_lines}
use Rattle.playlist_text.proofs.TextLines.{text_of-append, text_of-line}

-- a fact that holds anyhow
pub OnErr-fact : {T E P : Type 0} (r : Result T E) → P → OnErr r P
OnErr-fact (Ok x) p = tt
OnErr-fact (Err e) p = p

-- an enumerated value and a quoted one
pub plain-two : (a b text uri : Bor (List ℕ)) → HaveNoHexadecimal (record { name = a; value = Enumerated text } ∷ record { name = b; value = Quoted uri } ∷ [])
plain-two a b text uri =
    let Plain = λ (x : Attribute). is_hexadecimal x.value ≡ false in
    let first : Attribute = record { name = a; value = Enumerated text } in
    let second : Attribute = record { name = b; value = Quoted uri } in
    All-cons Plain first (second ∷ []) refl (All-cons Plain second [] refl (All-nil Plain))

-- what was appended
pub grown : (old new more : List ℕ) → new ≡ old ++ more → length new ≡ length old + length more
grown old new more is = ap length is ∙ length-append old more

-- some lines and others
pub text-long : (xs ys : List (List ℕ)) → length (text_of (xs ++ ys)) ≡ length (text_of xs) + length (text_of ys)
text-long xs ys = ap length (text_of-append xs ys) ∙ length-append (text_of xs) (text_of ys)

-- one line
line-long : (line : List ℕ) → length (text_of (line ∷ [])) ≡ length line + 1
line-long line = ap length (text_of-line line) ∙ length-append line (10 ∷ [])

-- the first lines of what is left to write
pub left-long : (old new : List ℕ) (xs ys all : List (List ℕ)) → old ++ text_of (xs ++ ys) ≡ new ++ text_of all →
    length old + length (text_of xs) ≤ length new + length (text_of all)
left-long old new xs ys all left =
    let lengths = simp length-append at (ap length left) in
    let both = text-long xs ys in
    omega (arith, lengths, both)

-- the lines of a segment
pub entry-long : (name : List ℕ) (salt : Option (List ℕ)) (before : Option ℕ) (entry : Entry) →
    length (text_of (entry_lines name salt before entry))
    ≡ length (text_of (discontinuity_lines entry.discontinuity)) + length (text_of (entry_key_lines name salt before entry.key entry.number))
    + length (text_of (duration_line entry.micros ∷ [])) + (length (segment_uri name entry.number) + 1)
unfolding entry_lines
entry-long name salt before entry =
    let begun = discontinuity_lines entry.discontinuity in
    let keys = entry_key_lines name salt before entry.key entry.number in
    let duration = duration_line entry.micros in
    let uri = segment_uri name entry.number in
    let first = text-long begun keys in
    let all = text-long (begun ++ keys) (duration ∷ uri ∷ []) in
    let last = text-long (duration ∷ []) (uri ∷ []) in
    let line = line-long uri in
    omega (arith, first, all, last, line)
