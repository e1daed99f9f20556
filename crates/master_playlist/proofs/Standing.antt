-- Which faults stand.
use Rattle.std.proofs.Common.{◌≡◌, ℕ, suc, zero, ◌<◌, ◌≤◌, Bool, true, false, List, [], ◌∷◌, length, get_or, Option, Some, None, refl, sym, ap, ◌∙◌, inl, inr, arith}
use Rattle.std.specs.Prelude.{not, unwrap_or, is_some, if◌then◌else◌}
use Rattle.std.specs.Str.{bytes_eq}
use Rattle.std.proofs.lemmas.Bool.{false≢true, or_cases, or_left, or_right}
use Rattle.std.proofs.lemmas.List.{get_or_default}
use Rattle.std.proofs.lemmas.List.Folds.{Any-from_list_any, list_any-from_Any}
use Rattle.std.proofs.lemmas.Slice.Eq.{bytes_eq-Decides}
use Rattle.playlist_text.specs.Names.{is_name, is_codecs}
use Rattle.master_playlist.specs.Listed.{Listed}
use Rattle.master_playlist.specs.declared.fault.MasterFault.{MasterFault}
use Rattle.master_playlist.specs.declared.fault.MasterFault.TheVariants.{BadName, SameName, BadCodecs, BadResolution, NoMemory}
use Rattle.master_playlist.specs.Faults.{number, names, AreSame, Stands, has_resolution, has_bad_name, has_name, has_same_names, has_bad_codecs, has_bad_resolution, fault_of}

-- the name at a place
name_at : (vs : List Listed) (k : ℕ) (d : Listed) → k < length vs → get_or (names vs) k [] ≡ (get_or vs k d).name
name_at [] k d below = absurd (omega (arith, below))
name_at (v ∷ vs) zero d below = refl
name_at (v ∷ vs) (suc k) d below = name_at vs k d (omega (arith, below))

-- two variants that the test finds
same_found : (vs : List Listed) → has_same_names vs ≡ true → (i : ℕ) × (j : ℕ) × AreSame vs i j
unfolding has_same_names
same_found [] test = absurd (false≢true test)
same_found (v ∷ vs) test = elim (or_cases (has_name v.name vs) (has_same_names vs) test) [
  | inl first ↦
      let other = Any-from_list_any (λ w. bytes_eq w.name v.name) vs first in
      let same : other.1.name ≡ v.name = (bytes_eq-Decides other.1.name v.name).0 other.4 in
      (0, suc other.0, (omega arith, omega (arith, other.2), sym (name_at vs other.0 other.1 other.2 ∙ ap (λ (w : Listed). w.name) other.3 ∙ same)))
  | inr later ↦
      let pair = same_found vs later in
      (suc pair.0, suc pair.1, (omega (arith, pair.2.0), omega (arith, pair.2.1), pair.2.2))
]

-- the test finds two variants
same_tested : (vs : List Listed) (i j : ℕ) → AreSame vs i j → has_same_names vs ≡ true
unfolding has_same_names
same_tested [] i j same = absurd (omega (arith, same.1))
same_tested (v ∷ vs) i zero same = absurd (omega (arith, same.0))
same_tested (v ∷ vs) zero (suc j) same =
    let below : j < length vs = omega (arith, same.1) in
    let w : Listed = get_or vs j v in
    let names_same : w.name ≡ v.name = sym (same.2 ∙ name_at vs j v below) in
    or_left (has_name v.name vs) (has_same_names vs)
    (list_any-from_Any (λ w. bytes_eq w.name v.name) vs (j, w, below, get_or_default vs j w v below, (bytes_eq-Decides w.name v.name).1 names_same))
same_tested (v ∷ vs) (suc i) (suc j) same =
    or_right (has_name v.name vs) (has_same_names vs) (same_tested vs i j (omega (arith, same.0), omega (arith, same.1), same.2))

-- the fault of four tests
abbrev told : Bool → Bool → Bool → Bool → Option MasterFault
told a b c d = if a then Some BadName else (if b then Some SameName else (if c then Some BadCodecs else (if d then Some BadResolution else None)))

-- the number of a fault, or a greater one of none
abbrev number_of : Option MasterFault → ℕ
number_of None = 6
number_of (Some fault) = number fault

first_at_most : (a b c d : Bool) → a ≡ true → number_of (told a b c d) ≤ 1
first_at_most true b c d test = omega arith
first_at_most false b c d test = absurd (false≢true test)

second_at_most : (a b c d : Bool) → b ≡ true → number_of (told a b c d) ≤ 2
second_at_most true b c d test = omega arith
second_at_most false true c d test = omega arith
second_at_most false false c d test = absurd (false≢true test)

third_at_most : (a b c d : Bool) → c ≡ true → number_of (told a b c d) ≤ 3
third_at_most true b c d test = omega arith
third_at_most false true c d test = omega arith
third_at_most false false true d test = omega arith
third_at_most false false false d test = absurd (false≢true test)

fourth_at_most : (a b c d : Bool) → d ≡ true → number_of (told a b c d) ≤ 4
fourth_at_most true b c d test = omega arith
fourth_at_most false true c d test = omega arith
fourth_at_most false false true d test = omega arith
fourth_at_most false false false true test = omega arith
fourth_at_most false false false false test = absurd (false≢true test)

-- no fault that stands has a lesser number than the one told
at_most : (vs : List Listed) (fault : MasterFault) → Stands fault vs → number_of (fault_of vs) ≤ number fault
unfolding fault_of
at_most vs BadName stands =
    first_at_most (has_bad_name vs) (has_same_names vs) (has_bad_codecs vs) (has_bad_resolution vs)
    (list_any-from_Any (λ v. not (is_name v.name)) vs stands)
at_most vs SameName stands =
    second_at_most (has_bad_name vs) (has_same_names vs) (has_bad_codecs vs) (has_bad_resolution vs)
    (same_tested vs stands.0 stands.1 stands.2)
at_most vs BadCodecs stands =
    third_at_most (has_bad_name vs) (has_same_names vs) (has_bad_codecs vs) (has_bad_resolution vs)
    (list_any-from_Any (λ v. not (is_codecs v.codecs)) vs stands)
at_most vs BadResolution stands =
    fourth_at_most (has_bad_name vs) (has_same_names vs) (has_bad_codecs vs) (has_bad_resolution vs)
    (list_any-from_Any (λ v. not (has_resolution v)) vs stands)
at_most vs NoMemory stands = absurd stands

-- what is told is the same
some_same : {f g : MasterFault} → Some f ≡ Some g → f ≡ g
some_same {f} {g} same = ap (λ (o : Option MasterFault). unwrap_or o f) same

-- what is told isn't nothing
none_some : {f : MasterFault} → None ≡ Some f → ⊥
none_some told_is = false≢true (ap (λ (o : Option MasterFault). is_some o) told_is)

-- the fault of four tests stands
told_stands : (vs : List Listed) (a b c d : Bool) (fault : MasterFault) → has_bad_name vs ≡ a → has_same_names vs ≡ b → has_bad_codecs vs ≡ c → has_bad_resolution vs ≡ d →
    told a b c d ≡ Some fault → Stands fault vs
told_stands vs true b c d fault name same codecs size told_is =
    rw (← some_same told_is) (Any-from_list_any (λ v. not (is_name v.name)) vs name)
told_stands vs false true c d fault name same codecs size told_is =
    rw (← some_same told_is) (same_found vs same)
told_stands vs false false true d fault name same codecs size told_is =
    rw (← some_same told_is) (Any-from_list_any (λ v. not (is_codecs v.codecs)) vs codecs)
told_stands vs false false false true fault name same codecs size told_is =
    rw (← some_same told_is) (Any-from_list_any (λ v. not (has_resolution v)) vs size)
told_stands vs false false false false fault name same codecs size told_is = absurd (none_some told_is)

-- the fault that is told stands
pub Stands-fault_of : (vs : List Listed) (fault : MasterFault) → fault_of vs ≡ Some fault → Stands fault vs
unfolding fault_of
Stands-fault_of vs fault is =
    told_stands vs (has_bad_name vs) (has_same_names vs) (has_bad_codecs vs) (has_bad_resolution vs) fault refl refl refl refl is

-- none of a lesser number does
pub fault_of-least : (vs : List Listed) (fault lesser : MasterFault) → fault_of vs ≡ Some fault → number lesser < number fault → Stands lesser vs → ⊥
fault_of-least vs fault lesser is less stands =
    let same : number_of (fault_of vs) ≡ number fault = ap number_of is in
    omega (arith, same, less, at_most vs lesser stands)

-- there are five numbers
number-le : (fault : MasterFault) → number fault ≤ 5
number-le BadName = omega arith
number-le SameName = omega arith
number-le BadCodecs = omega arith
number-le BadResolution = omega arith
number-le NoMemory = omega arith

-- where none is told none stands
pub fault_of-none : (vs : List Listed) (fault : MasterFault) → fault_of vs ≡ None → Stands fault vs → ⊥
fault_of-none vs fault is stands =
    let same : number_of (fault_of vs) ≡ 6 = ap number_of is in
    omega (arith, same, at_most vs fault stands, number-le fault)
