-- The last of the things that some sections give.
use Rattle.std.proofs.Common.{◌≡◌, ℕ, List, [], ◌∷◌, ◌++◌, refl, sym, ◌∙◌, ap, Option, Some, None}
use Rattle.std.specs.Option.{option_or}
use Rattle.std.specs.List.{filter_map, cons_option}
use Rattle.std.proofs.lemmas.List.Elements.{filter_map-append}
use Rattle.psi_tables.specs.InForce.{last_or}

pub last_or-append : {A : Type 0} (before : Option A) (xs ys : List A) → last_or before (xs ++ ys) ≡ last_or (last_or before xs) ys
unfolding last_or
last_or-append before [] ys = refl
last_or-append before (x ∷ xs) ys = last_or-append (Some x) xs ys

pub last_or-none : {A : Type 0} (before : Option A) → last_or before [] ≡ before
unfolding last_or
last_or-none before = refl

last_or-one : {A : Type 0} (before o : Option A) → last_or before (cons_option o []) ≡ option_or o before
unfolding last_or
last_or-one before None = refl
last_or-one before (Some x) = refl

-- one section more
pub last_or-push : {A : Type 0} (f : List ℕ → Option A) (before : Option A) (xs : List (List ℕ)) (s : List ℕ) →
    last_or before (filter_map f (xs ++ s ∷ [])) ≡ option_or (f s) (last_or before (filter_map f xs))
last_or-push f before xs s =
    ap (last_or before) (filter_map-append f xs (s ∷ [])) ∙ last_or-append before (filter_map f xs) (filter_map f (s ∷ [])) ∙ last_or-one (last_or before (filter_map f xs)) (f s)

or_some : {A : Type 0} (o before : Option A) (x : A) → option_or (option_or o (Some x)) before ≡ option_or o (Some x)
or_some None before x = refl
or_some (Some y) before x = refl

-- the last of these where there is one, else what was there before
pub last_or-or : {A : Type 0} (before : Option A) (xs : List A) → last_or before xs ≡ option_or (last_or None xs) before
unfolding last_or
last_or-or before [] = refl
last_or-or before (x ∷ xs) =
    let e = last_or-or (Some x) xs in
    e ∙ sym (or_some (last_or None xs) before x) ∙ ap (λ o. option_or o before) (sym e)

-- the last one after one section more
pub last_or-next : {A : Type 0} (f : List ℕ → Option A) (before last last_then : Option A) (xs xs_then : List (List ℕ)) (s : List ℕ) → last ≡ last_or before (filter_map f xs) →
    xs_then ≡ xs ++ s ∷ [] → last_then ≡ option_or (f s) last → last_then ≡ last_or before (filter_map f xs_then)
last_or-next f before last last_then xs xs_then s so_far grown step =
    step ∙ ap (option_or (f s)) so_far ∙ sym (last_or-push f before xs s) ∙ ap (λ (ss : List (List ℕ)). last_or before (filter_map f ss)) (sym grown)
