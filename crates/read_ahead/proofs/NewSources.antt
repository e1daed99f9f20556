-- Sources of inputs that were just opened.
use Rattle.std.proofs.Common.{All, arith, ◌≡◌, refl, ◌∙◌, ap, ap₂, sym, ℕ, suc, ◌+◌, List, [], ◌∷◌, ◌++◌, append_assoc, length, map, Option, Bool, false, get_or}
use Rattle.std.proofs.lemmas.List.{map-append, length-append, length-map, get_or_at}
use Rattle.std.proofs.lemmas.List.Elements.{All-cons, All-nil}
use Rattle.std.specs.Arc.{arc_value}
use Rattle.std.specs.List.{range_with_len}
use Rattle.read_ahead.specs.Sources.{Seen, all_seen, new_seen, rest_of, seen_first}
use Rattle.read_ahead.specs.declared.backlogs.Backlogs.{Backlogs}
use Rattle.read_ahead.specs.declared.incoming.Incoming.{Incoming}

pub seen_is : {I : Type 0} (holds : I → Option (List ℕ)) (i : Incoming I) (backlogs : Backlogs) (number : ℕ) (left : Option (List ℕ)) →
    arc_value i.backlogs ≡ backlogs → i.number ≡ number → rest_of holds i ≡ left → seen_first holds i ≡ new_seen backlogs number left
seen_is holds i backlogs number left value num rest = λ k. new_seen (value k) (num k) (rest k)

-- one more
pub all_snoc : (backlogs : Backlogs) (number : ℕ) (lefts : List (Option (List ℕ))) (left : Option (List ℕ)) →
    all_seen backlogs number (lefts ++ left ∷ []) ≡ all_seen backlogs number lefts ++ new_seen backlogs (number + length lefts) left ∷ []
all_snoc backlogs number [] left = ap (λ n. new_seen backlogs n left ∷ []) (omega arith)
all_snoc backlogs number (l ∷ lefts) left =
    ap (λ rest. new_seen backlogs number l ∷ rest) (all_snoc backlogs (number + 1) lefts left
    ∙ ap (λ n. all_seen backlogs (number + 1) lefts ++ new_seen backlogs n left ∷ []) (omega arith))

pub all_left : (backlogs : Backlogs) (number : ℕ) (lefts : List (Option (List ℕ))) → map (λ (s : Seen). s.left) (all_seen backlogs number lefts) ≡ lefts
all_left backlogs number [] = refl
all_left backlogs number (l ∷ lefts) = ap (λ rest. l ∷ rest) (all_left backlogs (number + 1) lefts)

pub all_numbers : (backlogs : Backlogs) (number : ℕ) (lefts : List (Option (List ℕ))) →
    map (λ (s : Seen). s.number) (all_seen backlogs number lefts) ≡ range_with_len number (length lefts)
all_numbers backlogs number [] = refl
all_numbers backlogs number (l ∷ lefts) = ap (λ rest. number ∷ rest) (all_numbers backlogs (number + 1) lefts)

-- from the number on behind `before`, the answers whether inputs are plain files are these
files_from : (backlogs : Backlogs) (number : ℕ) (lefts : List (Option (List ℕ))) (before files : List Bool) → backlogs.files.items ≡ before ++ files → length before ≡ number →
    length lefts ≡ length files → map (λ (s : Seen). s.is_file) (all_seen backlogs number lefts) ≡ files
files_from backlogs number [] before [] are at many = refl
files_from backlogs number [] before (f ∷ files) are at many = absurd (omega (arith, many))
files_from backlogs number (l ∷ lefts) before [] are at many = absurd (omega (arith, many))
files_from backlogs number (l ∷ lefts) before (f ∷ files) are at many =
    ap₂ (λ (b : Bool) (bs : List Bool). b ∷ bs)
    (ap (λ (bs : List Bool). get_or bs number false) are ∙ get_or_at before f files false number at)
    (files_from backlogs (number + 1) lefts (before ++ f ∷ []) files (are ∙ sym (append_assoc before (f ∷ []) files)) (omega (arith, at, length-append before (f ∷ []))) (omega (arith, many)))

pub all_files : (backlogs : Backlogs) (lefts : List (Option (List ℕ))) → length lefts ≡ length backlogs.files.items →
    map (λ (s : Seen). s.is_file) (all_seen backlogs 0 lefts) ≡ backlogs.files.items
all_files backlogs lefts many = files_from backlogs 0 lefts [] backlogs.files.items refl refl many

-- what holds of each new one holds of all
pub each_new : (P : Seen → Type 0) (backlogs : Backlogs) (number : ℕ) (lefts : List (Option (List ℕ))) → ((n : ℕ) (l : Option (List ℕ)) → P (new_seen backlogs n l)) →
    All P (all_seen backlogs number lefts)
each_new P backlogs number [] new = All-nil P
each_new P backlogs number (l ∷ lefts) new =
    All-cons P (new_seen backlogs number l) (all_seen backlogs (number + 1) lefts) (new number l) (each_new P backlogs (number + 1) lefts new)

pub all_length : (backlogs : Backlogs) (number : ℕ) (lefts : List (Option (List ℕ))) → length (all_seen backlogs number lefts) ≡ length lefts
all_length backlogs number [] = refl
all_length backlogs number (l ∷ lefts) = ap suc (all_length backlogs (number + 1) lefts)

-- an input more was started
pub seen_snoc : {I : Type 0} (holds : I → Option (List ℕ)) (backlogs : Backlogs) (old now : List (Incoming I)) (x : Incoming I) (yielded : List I) (input : I) → now ≡ old ++ x ∷ [] →
    map (seen_first holds) old ≡ all_seen backlogs 0 (map holds yielded) → arc_value x.backlogs ≡ backlogs → x.number ≡ length old → rest_of holds x ≡ holds input →
    map (seen_first holds) now ≡ all_seen backlogs 0 (map holds (yielded ++ input ∷ []))
seen_snoc holds backlogs old now x yielded input grew so_far value num rest =
    let lefts = map holds yielded in
    let many : length old ≡ 0 + length lefts = omega (arith, length-map old (seen_first holds), ap length so_far, all_length backlogs 0 lefts) in
    ap (map (seen_first holds)) grew
    ∙ map-append (seen_first holds) old (x ∷ [])
    ∙ ap₂ (λ (l : List Seen) (s : Seen). l ++ s ∷ []) so_far (seen_is holds x backlogs (0 + length lefts) (holds input) value (num ∙ many) rest)
    ∙ sym (all_snoc backlogs 0 lefts (holds input))
    ∙ ap (all_seen backlogs 0) (sym (map-append holds yielded (input ∷ [])))

-- one more of those that are made of others
pub made_on : {A B : Type 0} (f : A → B) (made now : List B) (all old rest : List A) (one : A) (x : B) → now ≡ made ++ x ∷ [] → x ≡ f one → old ≡ one ∷ rest →
    made ++ map f old ≡ map f all → now ++ map f rest ≡ map f all
made_on {A} {B} f made now all old rest one x grew is steps so_far =
    ap (λ (l : List B). l ++ map f rest) grew
    ∙ append_assoc made (x ∷ []) (map f rest)
    ∙ ap (λ (y : B). made ++ y ∷ map f rest) is
    ∙ sym (ap (λ (l : List A). made ++ map f l) steps)
    ∙ so_far
