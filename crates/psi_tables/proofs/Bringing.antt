-- Packets that bring something to a section.
use Rattle.std.proofs.Common.{◌≡◌, ◌≢◌, ◌⊎◌, ℕ, ◌<◌, true, List, [], ◌∷◌, ◌++◌, map, length, refl, sym, ◌∙◌, ap, subst, arith, inl, inr, Option, Some, None}
use Rattle.std.proofs.lemmas.Bool.{cases_Bool, cond-true, cond-false, false≢true}
use Rattle.ts_packet.specs.Fields.{payload_unit_start_indicator}
use Rattle.psi_tables.specs.Sections.{Carrier, carrier, follows, pointed, behind_pointer, is_whole, begun_in}
use Rattle.std.specs.Prelude.{Any, Result, Ok, Err, IsOk, OnErr}
use Rattle.psi_tables.specs.InForce.{InForce, since_change}
use Rattle.psi_tables.specs.declared.choice.Choice.{Choice}
use Rattle.psi_tables.specs.State.{Gathered, Keeps, IsCarried, IsNext, GoesOn, HasSection, BeginsSection, MayBring, Brings, BringsTables, Watches, pid_of, open_front, completed, continued}
use Rattle.psi_tables.proofs.Flow.{none_begun, no_section}

-- where no section was begun, none goes on
continued-none : (last : Option ℕ) (c : Carrier) → continued last [] c ≡ []
continued-none None c = refl
continued-none (Some counter) c = elim (cases_Bool (follows counter c)) [
  | inl next ↦ cond-true _ _ _ next
  | inr missing ↦ cond-false _ _ _ missing
]

some-bytes : (xs : List ℕ) → xs ≢ [] → 0 < length xs
some-bytes [] some = absurd (some refl)
some-bytes (x ∷ xs) some = omega arith

-- a packet in which a section goes on that was begun
goes-on : (g : Gathered) (p : List ℕ) (last : Option ℕ) (begun : List ℕ) → Keeps g last begun → continued last begun (carrier p) ≢ [] → GoesOn g p
goes-on g p None begun keeps some = absurd (some refl)
goes-on g p (Some counter) begun keeps some = elim (cases_Bool (follows counter (carrier p))) [
  | inl next ↦ record {
    kept = length begun;
    is_kept = record { last = Some counter; begun = begun; keeps = keeps; all = refl };
    some = some-bytes begun (λ none. some (ap (λ (x : List ℕ). continued (Some counter) x (carrier p)) none ∙ continued-none (Some counter) (carrier p)));
    next = subst (λ (last : Option ℕ). IsNext last p) keeps.counted next;
  }
  | inr missing ↦ absurd (some (cond-false _ _ _ missing))
]

-- .. or one begins
pub may-bring : (g : Gathered) (p : List ℕ) (last : Option ℕ) (begun : List ℕ) → Keeps g last begun
    → (continued last begun (carrier p) ≢ []) ⊎ BeginsSection p → MayBring g p
may-bring g p last begun keeps (inl some) = inr (goes-on g p last begun keeps some)
may-bring g p last begun keeps (inr begins) = inl begins

-- where no section goes on, a packet completes none but those that begin in it
completed-none : (p : List ℕ) → (completed [] (carrier p) ≡ []) ⊎ BeginsSection p
completed-none p = elim (cases_Bool (payload_unit_start_indicator p)) [
  | inl starts ↦ elim (cases_Bool (is_whole (behind_pointer (carrier p)))) [
    | inl whole ↦ inr (record { starts = starts; section = inl whole })
    | inr not_whole ↦ inl (cond-true _ _ _ starts
        ∙ ap (λ (x : List (List ℕ)). x ++ begun_in 0 (behind_pointer (carrier p)) []) (none_begun (pointed (carrier p)))
        ∙ no_section (behind_pointer (carrier p)) not_whole)
  ]
  | inr not ↦ inl (cond-false _ _ _ not ∙ none_begun (carrier p).payload)
]

found-by : (g : Gathered) (p : List ℕ) (last : Option ℕ) (begun goes : List ℕ) → Keeps g last begun → continued last begun (carrier p) ≡ goes
    → (completed goes (carrier p) ≡ []) ⊎ MayBring g p
found-by g p last begun [] keeps is = elim (completed-none p) [
  | inl none ↦ inl none
  | inr begins ↦ inr (inl begins)
]
found-by g p last begun (b ∷ goes) keeps is = inr (inr (goes-on g p last begun keeps (λ none. (cc))))

-- a packet that completes no section, or may bring something
pub found-or-brings : (g : Gathered) (p : List ℕ) (last : Option ℕ) (begun : List ℕ) → Keeps g last begun
    → (completed (continued last begun (carrier p)) (carrier p) ≡ []) ⊎ MayBring g p
found-or-brings g p last begun keeps = found-by g p last begun (continued last begun (carrier p)) keeps refl

-- what begins in some bytes, read section by section
pub first-whole : (rest bytes : List ℕ) → (rest ≡ bytes) ⊎ (is_whole bytes ≡ true) → is_whole rest ≡ true → is_whole bytes ≡ true
first-whole rest bytes (inl same) whole = ap is_whole (sym same) ∙ whole
first-whole rest bytes (inr first) whole = first

pub first-open : (rest bytes : List ℕ) → (rest ≡ bytes) ⊎ (is_whole bytes ≡ true) → open_front rest ≢ [] → HasSection bytes
first-open rest bytes (inl same) some = inr (λ none. some (ap open_front same ∙ none))
first-open rest bytes (inr first) some = inl first

-- what succeeds where there are no bytes wants memory for some
pub err-some : {A E : Type 0} (r : Result A E) (bytes : List ℕ) (Q : Type 0) → (bytes ≡ [] → IsOk r) → OnErr r ((bytes ≢ []) ⊎ Q)
err-some (Ok a) bytes Q ok = tt
err-some (Err e) bytes Q ok = inl (λ none. false≢true (ok none))

-- no section stands where there are no bytes
none-stands : HasSection [] → ⊥
none-stands (inl whole) = (cc)
none-stands (inr some) = some refl

-- one stands behind the pointer of a packet with start indicator, or behind one that gave up the rest
pub begins-behind : (p back : List ℕ) → payload_unit_start_indicator p ≡ true → (back ≡ []) ⊎ (back ≡ behind_pointer (carrier p)) → HasSection back → BeginsSection p
begins-behind p back starts (inl none) stands = absurd (none-stands (subst HasSection none stands))
begins-behind p back starts (inr same) stands = record { starts = starts; section = subst HasSection same stands }

-- some sections were found: so one stands at the front
pub found-stands : (bytes : List ℕ) (found : List (List ℕ)) → found ≡ begun_in 0 bytes [] → 0 < length found → HasSection bytes
found-stands bytes found is some = elim (cases_Bool (is_whole bytes)) [
  | inl whole ↦ inl whole
  | inr not_whole ↦ absurd (omega (arith, ap length (is ∙ no_section bytes not_whole)))
]

pub map-none : {A B : Type 0} (f : A → B) (xs : List A) → map f xs ≡ [] → xs ≡ []
map-none f [] is = refl
map-none f (x ∷ xs) is = absurd (omega (arith, ap length is))

none-any : {A : Type 0} (P : A → Type 0) → Any P [] → ⊥
none-any P one = omega (arith, one.2)

-- of sections that were found one wants memory: so the packet brings something
pub found-brings : {A : Type 0} (g : Gathered) (p : List ℕ) (P : A → Type 0) (found seen : List A) → Any P seen → seen ≡ found
    → (found ≡ []) ⊎ IsCarried g p → (found ≡ []) ⊎ MayBring g p → Brings g p
found-brings g p P found seen one same (inl none) some = absurd (none-any P (subst (Any P) (same ∙ none) one))
found-brings g p P found seen one same (inr carried) (inl none) = absurd (none-any P (subst (Any P) (same ∙ none) one))
found-brings g p P found seen one same (inr carried) (inr brings) = (carried, brings)

-- what brings something to the sections of the PAT that a watch gathers
pub pats-bring : (wanted : Option ℕ) (pats pmts : Gathered) (chosen : Option Choice) (tables : Option InForce) (p : List ℕ)
    → Watches wanted pats pmts chosen tables → Brings pats p → BringsTables (record { program = wanted; packets = pats.packets }) p
pats-bring wanted pats pmts chosen tables p watches brings =
    inl (subst (λ (on : ℕ). Brings (record { pid = on; packets = pats.packets }) p) watches.on_pid_0 brings)

-- .. or of the PMT
pub pmts-bring : (wanted : Option ℕ) (pats pmts : Gathered) (chosen : Option Choice) (tables : Option InForce) (p : List ℕ)
    → Watches wanted pats pmts chosen tables → Brings pmts p → BringsTables (record { program = wanted; packets = pats.packets }) p
pmts-bring wanted pats pmts chosen tables p watches brings =
    let since = since_change wanted pats.packets (length pats.packets) in
    inr (subst (λ (c : Option Choice). Brings (record { pid = pid_of c; packets = since }) p) watches.chosen_last
    (subst (λ (g : Gathered). Brings g p) watches.gathered brings))
