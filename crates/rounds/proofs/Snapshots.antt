-- Texts of some renditions, one behind another.
use Rattle.std.proofs.Common.{◌≡◌, ◌∙◌, ℕ, ◌+◌, ◌<◌, ◌≤◌, List, [], ◌∷◌, ◌++◌, length, map, take, get_or, ap, sym, arith}
use Rattle.std.specs.List.{zip}
use Rattle.std.proofs.lemmas.Slice.Zip.{get_or-zip}
use Rattle.std.proofs.lemmas.List.{map_more, map-append, take_all}
use Rattle.ladder_items.proofs.Zipped.{length-both}

-- one more of two lists side by side
pub map-next : {A B T : Type 0} (f : A × B → List ℕ) (bytes : T → List ℕ) (ks : List A) (vs : List B) (i : ℕ) (a : A) (b : B) (out new : List T) (text : T)
    → i < length ks → length vs ≡ length ks → a ≡ get_or ks i a → b ≡ get_or vs i b
    → map bytes out ≡ map f (take i (zip ks vs)) → new ≡ out ++ text ∷ [] → bytes text ≡ f (a, b)
    → map bytes new ≡ map f (take (i + 1) (zip ks vs))
map-next {A} {B} f bytes ks vs i a b out new text below both k v so_far more is =
    let pair : (a, b) ≡ get_or (zip ks vs) i (a, b) =
    ap (λ (x : A). (x, b)) k ∙ (ap (λ (y : B). (get_or ks i a, y)) v ∙ sym (get_or-zip ks vs i (a, b) below (omega (arith, below, both)))) in
    ap (map bytes) more
    ∙ (map-append bytes out (text ∷ [])
    ∙ (ap (λ (l : List (List ℕ)). l ++ bytes text ∷ []) so_far
    ∙ (ap (λ (t : List ℕ). map f (take i (zip ks vs)) ++ t ∷ []) (is ∙ ap f pair)
    ∙ sym (map_more f (zip ks vs) i (a, b) (omega (arith, below, length-both ks vs both))))))

-- all of them
pub map-all : {A B : Type 0} (f : A × B → List ℕ) (ks : List A) (vs : List B) (i : ℕ) (out : List (List ℕ)) → length ks ≤ i → length vs ≡ length ks
    → out ≡ map f (take i (zip ks vs)) → out ≡ map f (zip ks vs)
map-all f ks vs i out all both so_far = so_far ∙ ap (map f) (take_all i (zip ks vs) (omega (arith, all, length-both ks vs both)))
