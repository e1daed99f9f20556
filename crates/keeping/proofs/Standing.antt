-- What stands under one name.
use Rattle.std.specs.Str.{bytes_eq}
use Rattle.std.proofs.Common.{◌≡◌, ◌≢◌, ℕ, Bool, true, false, Some, List, [], ◌∷◌, ◌++◌, refl, sym, ap, ◌∙◌, subst}
use Rattle.std.proofs.lemmas.Slice.Eq.{bytes_eq-Decides}
use Rattle.folder.specs.Moves.{Files, Shows, is_hidden, with_file}
use Rattle.folder.specs.Puts.{Put, after_puts}
use Rattle.folder.proofs.Names.{at_name, elsewhere}
use Rattle.folder.proofs.Placing.{after_puts-append}
use Rattle.keeping.specs.InPlace.{HasIn}

-- each of these files that has this name has such bytes
abbrev pub EachOf : List ℕ → (List ℕ → Type 0) → List Put → Type 0
EachOf file Is [] = Unit {0}
EachOf file Is (p ∷ puts) = (p.name ≡ file → Is p.bytes) × EachOf file Is puts

put-now : (file : List ℕ) (Is : List ℕ → Type 0) (files : Files) (p : Put) → p.name ≡ file → Is p.bytes → HasIn (with_file files p.name (Some p.bytes)) file Is
put-now file Is files p named is = record {
  text = p.bytes;
  in_place = ap (λ (n : List ℕ). with_file files p.name (Some p.bytes) n) (sym named) ∙ at_name files p.name (Some p.bytes);
  so = is;
}

put-else : (file : List ℕ) (Is : List ℕ → Type 0) (files : Files) (p : Put) → p.name ≢ file → HasIn files file Is → HasIn (with_file files p.name (Some p.bytes)) file Is
put-else file Is files p apart has = record {
  text = has.text;
  in_place = elsewhere files p.name file (Some p.bytes) apart ∙ has.in_place;
  so = has.so;
}

put-one : (file : List ℕ) (Is : List ℕ → Type 0) (files : Files) (p : Put) → (p.name ≡ file → Is p.bytes) → HasIn files file Is → HasIn (with_file files p.name (Some p.bytes)) file Is
put-one file Is files p is has =
    elim (bytes_eq p.name file) as (λ (t : Bool). bytes_eq p.name file ≡ t → HasIn (with_file files p.name (Some p.bytes)) file Is) [
      | true ↦ λ same. let named : p.name ≡ file = (bytes_eq-Decides p.name file).0 same in put-now file Is files p named (is named)
      | false ↦ λ apart. put-else file Is files p (λ same. let equal : bytes_eq p.name file ≡ true = (bytes_eq-Decides p.name file).1 same in cc (apart, equal)) has
    ] refl

-- behind further files
stays : (file : List ℕ) (Is : List ℕ → Type 0) (puts : List Put) → EachOf file Is puts → (files : Files) → HasIn files file Is → HasIn (after_puts files puts) file Is
stays file Is [] each files has = has
stays file Is (p ∷ puts) each files has = stays file Is puts each.1 (with_file files p.name (Some p.bytes)) (put-one file Is files p each.0 has)

-- behind files of which the last of this name has such bytes
pub last-in : (file : List ℕ) (Is : List ℕ → Type 0) (front : List Put) (p : Put) (more : List Put) → p.name ≡ file → Is p.bytes → EachOf file Is more → (files : Files) →
    HasIn (after_puts files (front ++ p ∷ more)) file Is
last-in file Is front p more named is each files =
    let before = after_puts files front in
    subst (λ (f : Files). HasIn f file Is) (sym (after_puts-append files front (p ∷ more)))
    (stays file Is more each (with_file before p.name (Some p.bytes)) (put-now file Is before p named is))

-- what looks the same
pub shown-in : (file : List ℕ) (Is : List ℕ → Type 0) (a b : Files) → is_hidden file ≡ false → Shows a b → HasIn b file Is → HasIn a file Is
shown-in file Is a b shown shows has = record { text = has.text; in_place = shows file shown ∙ has.in_place; so = has.so }
