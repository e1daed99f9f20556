-- Faults that are noted and named.
use Rattle.std.proofs.Common.{◌≡◌, refl, sym, ap, ◌∙◌, ℕ, suc, ◌<◌, ◌≤◌, List, ◌++◌, ◌∷◌, map, length, take, drop, drop-cons, take-append-drop, Option, Some, None, Bor}
use Rattle.std.specs.Prelude.{All, IsSome, slice_index_or, slice_set, option_copied}
use Rattle.std.proofs.lemmas.List.{map-set, set_past, set_split, length-map}
use Rattle.ladder_items.specs.declared.fault.PackFault.{PackFault}
use Rattle.program.specs.Faulted.{name_of, named_in, rendition_of}

pub named_set : (faults : List (Option (Bor (List ℕ)))) (fault : PackFault) (r : ℕ) (name : Bor (List ℕ)) → rendition_of fault ≡ Some r → name_of fault ≡ name.now →
    map option_copied (slice_set faults r (Some name)) ≡ named_in (map option_copied faults) (Some fault)
named_set faults fault r name of is = rw (of, is) (map-set option_copied faults r (Some name))

pub named_past : (faults : List (Option (Bor (List ℕ)))) (fault : PackFault) (r : ℕ) → rendition_of fault ≡ Some r → length faults ≤ r →
    map option_copied faults ≡ named_in (map option_copied faults) (Some fault)
named_past faults fault r of past = rw of (sym (set_past (map option_copied faults) r (Some (name_of fault)) (rw (length-map faults option_copied) past)))

pub named_none : (faults : List (Option (Bor (List ℕ)))) (fault : PackFault) → rendition_of fault ≡ None →
    map option_copied faults ≡ named_in (map option_copied faults) (Some fault)
named_none faults fault of = rw of refl

-- into the first free place
pub noted_at : (faults : List (Option PackFault)) (i : ℕ) (fault : PackFault) (d : Option PackFault) → i < length faults → slice_index_or faults i d ≡ None → All IsSome (take i faults) →
    (front : List (Option PackFault)) × (behind : List (Option PackFault)) × All IsSome front × (faults ≡ front ++ None ∷ behind) × (slice_set faults i (Some fault) ≡ front ++ Some fault ∷ behind)
noted_at faults i fault d inside free before =
    let is : drop i faults ≡ None ∷ drop (suc i) faults = drop-cons faults i d inside ∙ ap (λ (x : Option PackFault). x ∷ drop (suc i) faults) free in
    (take i faults, drop (suc i) faults, before, sym (take-append-drop i faults) ∙ ap (λ (l : List (Option PackFault)). take i faults ++ l) is, set_split faults i (Some fault) inside)
