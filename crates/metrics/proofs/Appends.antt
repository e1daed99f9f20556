-- Texts that were appended one behind another.
use Rattle.std.proofs.Common.{◌≡◌, ◌∙◌, ℕ, List, ◌++◌, ap}
use Rattle.std.proofs.lemmas.List.{append_assoc}

pub more : (old mid new x y : List ℕ) → mid ≡ old ++ x → new ≡ mid ++ y → new ≡ old ++ (x ++ y)
more old mid new x y first second = second ∙ ap (λ (text : List ℕ). text ++ y) first ∙ append_assoc old x y
