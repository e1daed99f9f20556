-- Rows in byte order of their names.
use Rattle.std.proofs.Common.{◌+◌, ◌<◌, Bool, List, [], ◌∷◌, length, map, arith}
use Rattle.std.proofs.lemmas.List.{get_or-map, length-map}
use Rattle.std.specs.List.Sorted.{IsSortedBy}

-- what ascends by a test of what is told of it
pub sorted-map : {X Y : Type 0} (f : X → Y) (lt : Y → Y → Bool) (xs : List X) → IsSortedBy (λ a b. lt (f a) (f b)) xs → IsSortedBy lt (map f xs)
sorted-map f lt [] up k d low below = absurd (omega (arith, below))
sorted-map f lt (x ∷ xs) up k d low below =
    let inside : k + 1 < length (x ∷ xs) = omega (arith, below, length-map (x ∷ xs) f) in
    rw (get_or-map f (x ∷ xs) (k + 1) x d inside, get_or-map f (x ∷ xs) k x d (omega (arith, inside))) (up k x low inside)
