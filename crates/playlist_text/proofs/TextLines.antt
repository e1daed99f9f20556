-- Texts of lines, one behind the other.
use Rattle.std.proofs.Common.{◌≡◌, ℕ, List, [], ◌∷◌, ◌++◌, refl, sym, ap, ◌∙◌}
use Rattle.std.proofs.lemmas.Grind.{flat_map-append}
use Rattle.std.proofs.lemmas.List.{append-nil, append_assoc}
use Rattle.playlist_text.specs.Lines.{ended_line, text_of}

-- no lines have no text
pub text_of-nil : text_of [] ≡ []
unfolding text_of
text_of-nil = refl

-- the text of one line
pub text_of-line : (line : List ℕ) → text_of (line ∷ []) ≡ ended_line line
unfolding text_of
text_of-line line = append-nil (ended_line line)

-- the text of lines behind others
pub text_of-append : (xs ys : List (List ℕ)) → text_of (xs ++ ys) ≡ text_of xs ++ text_of ys
unfolding text_of
text_of-append xs ys = flat_map-append ended_line xs ys

-- what is left to write once some lines more are written
pub text_of-written : (old new all : List ℕ) (xs ys : List (List ℕ)) → old ++ text_of (xs ++ ys) ≡ all →
    new ≡ old ++ text_of xs → new ++ text_of ys ≡ all
text_of-written old new all xs ys left written =
    ap (λ (zs : List ℕ). zs ++ text_of ys) written ∙ append_assoc old (text_of xs) (text_of ys)
    ∙ ap (λ (zs : List ℕ). old ++ zs) (sym (text_of-append xs ys)) ∙ left

-- what is written once other lines come behind some
pub text_of-then : (old between new : List ℕ) (xs ys : List (List ℕ)) → between ≡ old ++ text_of xs → new ≡ between ++ text_of ys →
    new ≡ old ++ text_of (xs ++ ys)
text_of-then old between new xs ys first last =
    last ∙ ap (λ (zs : List ℕ). zs ++ text_of ys) first ∙ append_assoc old (text_of xs) (text_of ys)
    ∙ ap (λ (zs : List ℕ). old ++ zs) (sym (text_of-append xs ys))

-- what is written once some bytes come behind others
pub append_then : (old between new xs ys : List ℕ) → between ≡ old ++ xs → new ≡ between ++ ys → new ≡ old ++ (xs ++ ys)
append_then old between new xs ys first last =
    last ∙ ap (λ (zs : List ℕ). zs ++ ys) first ∙ append_assoc old xs ys

-- what is written once a line has its end
pub text_of-ended : (old between new line : List ℕ) → between ≡ old ++ line → new ≡ between ++ text_of ([] ∷ []) →
    new ≡ old ++ text_of (line ∷ [])
unfolding text_of
text_of-ended old between new line written ended =
    append_then old between new line (ended_line []) written ended
    ∙ ap (λ (zs : List ℕ). old ++ zs) (sym (append-nil (ended_line line)))
