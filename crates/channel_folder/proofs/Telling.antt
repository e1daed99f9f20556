-- What lines tell, one after another.
use Rattle.std.proofs.Common.{◌≡◌, ℕ, List, [], ◌∷◌, ◌++◌, refl, sym, ap, ◌∙◌}
use Rattle.channel_folder.specs.ReadTexts.{Told, untold, tell_line, tell_lines}

pub told-nil : (name : List ℕ) → untold ≡ tell_lines name untold []
unfolding tell_lines
told-nil name = refl

told-append : (name : List ℕ) (t : Told) (xs ys : List (List ℕ)) → tell_lines name t (xs ++ ys) ≡ tell_lines name (tell_lines name t xs) ys
unfolding tell_lines
told-append name t [] ys = refl
told-append name t (x ∷ xs) ys = told-append name (tell_line name t x) xs ys

pub told-more : (name : List ℕ) (lines : List (List ℕ)) (line : List ℕ) (t : Told) → t ≡ tell_lines name untold lines →
    tell_line name t line ≡ tell_lines name untold (lines ++ line ∷ [])
unfolding tell_lines
told-more name lines line t is = ap (λ (x : Told). tell_line name x line) is ∙ sym (told-append name untold lines (line ∷ []))
