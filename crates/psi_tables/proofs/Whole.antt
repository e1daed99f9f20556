-- Sections are whole: they have the length that they tell.
use Rattle.std.proofs.Common.{◌≡◌, ℕ, zero, suc, ◌+◌, ◌≤◌, Bool, true, false, List, [], ◌∷◌, ◌++◌, All, length, drop, sym, ◌∙◌, ap, arith, inl, inr, None}
use Rattle.std.proofs.lemmas.Bool.{cond-true, cond-false, cases_Bool, and_parts, leb-true}
use Rattle.std.proofs.lemmas.List.{length-take-le, take-append-drop}
use Rattle.std.proofs.lemmas.List.Elements.{All-append, All-cons, All-nil}
use Rattle.psi_tables.specs.Section.{section_length}
use Rattle.psi_tables.specs.Sections.{Carrier, IsSection, is_whole, first_section, begun_in, flow_behind, unfinished, is_given_up, opening, carriers, sections_in, sections}
use Rattle.psi_tables.proofs.Fronts.{section_length-append}

first_section-is : (s : List ℕ) → is_whole s ≡ true → IsSection (first_section s)
first_section-is s whole =
    let parts = (and_parts _ _ (and_parts _ _ (and_parts _ _ whole).1).1) in
    let most : section_length s ≤ 1021 = leb-true (section_length s) 1021 parts.0 in
    let enough : 3 + section_length s ≤ length s = leb-true (3 + section_length s) (length s) parts.1 in
    let long : length (first_section s) ≡ 3 + section_length s = length-take-le (3 + section_length s) s enough in
    let same : section_length s ≡ section_length (first_section s)
    = ap section_length (sym (take-append-drop (3 + section_length s) s)) ∙ section_length-append (first_section s) (drop (3 + section_length s) s) (omega arith) in
    record { long = omega arith; most = omega arith }

begun_in-are : (left : ℕ) (bytes flow : List ℕ) → All IsSection (begun_in left bytes flow)
unfolding begun_in
begun_in-are left [] flow = All-nil IsSection
begun_in-are (suc left) (b ∷ bytes) flow = begun_in-are left bytes flow
begun_in-are zero (b ∷ bytes) flow =
    let s = (b ∷ bytes) ++ flow in
    let found = first_section s ∷ begun_in (2 + section_length s) bytes flow in
    elim (cases_Bool (is_whole s)) [
      | inl y ↦ rw (cond-true (is_whole s) found [] y) (All-cons IsSection (first_section s) (begun_in (2 + section_length s) bytes flow) (first_section-is s y) (begun_in-are (2 + section_length s) bytes flow))
      | inr n ↦ rw (cond-false (is_whole s) found [] n) (All-nil IsSection)
    ]

sections_in-are : (given_up : Bool) (cs : List Carrier) → All IsSection (sections_in given_up cs)
unfolding sections_in
sections_in-are given_up [] = All-nil IsSection
sections_in-are given_up (c ∷ cs) =
    let bytes = opening given_up c in
    let here = begun_in 0 bytes (flow_behind c.counter cs) in
    let up = is_given_up (unfinished 0 bytes) c.counter cs in
    elim (cases_Bool c.starts) [
      | inl y ↦ rw (cond-true c.starts (here ++ sections_in up cs) (sections_in given_up cs) y)
          (All-append IsSection here (sections_in up cs) (begun_in-are 0 bytes (flow_behind c.counter cs)) (sections_in-are up cs))
      | inr n ↦ rw (cond-false c.starts (here ++ sections_in up cs) (sections_in given_up cs) n) (sections_in-are given_up cs)
    ]

pub sections-are : (on : ℕ) (packets : List (List ℕ)) → All IsSection (sections on packets)
unfolding sections
sections-are on packets = sections_in-are false (carriers on None packets)
