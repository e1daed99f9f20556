-- The name behind the last slash of a path.
use Rattle.std.specs.Prelude.{◌==◌, Err, IfOk, Ok, Result}
use Rattle.std.specs.Str.{NoCharPasses}
use Rattle.std.proofs.Common.{◌≡◌, ◌∙◌, refl, sym, ℕ, List, ◌++◌, codes, drop, take, append_assoc, inr, subst}
use Rattle.std.proofs.lemmas.List.{take-append-drop}
use Rattle.std.specs.Str.Pattern.{RFindsChar, SplitsAroundMatch}
use Rattle.program.specs.PartPaths.{IsPartPath}

pub part-of : {T E : Type 0} (bytes : T → List ℕ) (path folder name : List ℕ) → SplitsAroundMatch (RFindsChar 47) path folder name → (result : Result T E) →
    IfOk result (λ t. bytes t ≡ folder ++ (codes "/." ++ (name ++ codes ".part"))) → IfOk result (λ t. IsPartPath path (bytes t))
unfolding lib.Utf8.encode
part-of bytes path folder name (i, j, (behind, at), front, back, rest, more, most) (Err e) is = tt
part-of bytes path folder name (i, j, (behind, at), front, back, rest, more, most) (Ok t) is =
    let all : path ≡ take i path ++ drop i path = sym (take-append-drop i path) in
    record {
      folder = folder ++ codes "/";
      name = name;
      whole = all ∙ (λ k. sym front k ++ at.split k) ∙ (λ k. folder ++ (codes "/" ++ sym back k)) ∙ sym (append_assoc folder (codes "/") name);
      no_slash = subst (λ (l : List ℕ). NoCharPasses (λ c. c == 47) l) (sym back) behind;
      ends = inr (folder, refl);
      part_is = is ∙ sym (append_assoc folder (codes "/") (codes "." ++ (name ++ codes ".part")));
    }
