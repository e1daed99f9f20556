-- Sections to come, one packet further on.
use Rattle.std.proofs.Common.{◌≡◌, ℕ, ◌≤◌, Bool, true, false, ◌&&◌, ltb, cond, List, [], ◌∷◌, ◌++◌, length, refl, sym, ◌∙◌, ap, arith, append_assoc, length-append, inl, inr, Option, Some, None}
use Rattle.std.proofs.lemmas.Bool.{cond-true, cond-false, and_left, and_right, cases_Bool, lt-ltb, le-ltb}
use Rattle.std.proofs.lemmas.List.{append-nil}
use Rattle.ts_packet.specs.Fields.{continuity_counter}
use Rattle.psi_tables.specs.Sections.{Carrier, carrier, carriers, is_taken, follows, pointed, behind_pointer, begun_in, flow_behind, unfinished, bring_too_long, is_given_up, opening, sections_in}
use Rattle.psi_tables.specs.State.{to_come_behind, to_come, open_rest, left_open, gives_up, completed, left_behind, continued}
use Rattle.psi_tables.proofs.Fronts.{IsOpen, a_whole, an_open, a_none, front_of, is_stuffing-append, open_rest-whole, open_rest-open, open_rest-none}
use Rattle.psi_tables.proofs.Flow.{IsFront, not_begun, begun, none_begun, split, goes_on, front_none, front_of_rest, left_open-is_front}

and_both : {a b c : Bool} → a ≡ true → b ≡ c → (a && b) ≡ c
and_both {a} {b} {c} one two = ap (λ (x : Bool). x && b) one ∙ two

either : {A : Type 0} (b : Bool) (x y v : A) → x ≡ v → y ≡ v → cond b x y ≡ v
either true x y v one two = one
either false x y v one two = two

none_up : (counter : ℕ) (cs : List Carrier) → is_given_up [] counter cs ≡ false
unfolding is_given_up
none_up counter cs = refl

-- once the section_length is there, nothing more gives the section up
known_up : (s : List ℕ) (counter : ℕ) (cs : List Carrier) → 3 ≤ length s → is_given_up s counter cs ≡ false
unfolding is_given_up
known_up [] counter cs known = refl
known_up (b ∷ bytes) counter [] known = refl
known_up (b ∷ bytes) counter (c ∷ cs) known =
    and_right _ _ (either c.starts _ _ false (and_left _ _ (le-ltb (length (b ∷ bytes)) 3 known))
    (known_up ((b ∷ bytes) ++ c.payload) c.counter cs (omega (arith, length-append (b ∷ bytes) c.payload))))

-- giving up what is left open is giving up all that came
open_rest-up : (b : ℕ) (bytes more : List ℕ) (counter : ℕ) (cs : List Carrier) → IsOpen (b ∷ bytes) →
    is_given_up (open_rest ((b ∷ bytes) ++ more)) counter cs ≡ is_given_up ((b ∷ bytes) ++ more) counter cs
open_rest-up b bytes more counter cs h =
    let s = (b ∷ bytes) ++ more in
    let up = λ (x : List ℕ). is_given_up x counter cs in
    elim (front_of s) [
      | a_whole x ↦ ap up (open_rest-whole s x.whole) ∙ none_up counter cs ∙ sym (known_up s counter cs x.known)
      | an_open x ↦ ap up (open_rest-open s x)
      | a_none x ↦
          let known : 3 ≤ length s = x.known (is_stuffing-append (b ∷ bytes) more (omega arith) ∙ h.table) in
          ap up (open_rest-none s x) ∙ none_up counter cs ∙ sym (known_up s counter cs known)
    ]

-- a packet is missing
gap_up : (t : List ℕ) (counter : ℕ) (c : Carrier) (cs : List Carrier) → follows counter c ≡ false → is_given_up t counter (c ∷ cs) ≡ false
unfolding is_given_up
gap_up [] counter c cs gap = refl
gap_up (b ∷ bytes) counter c cs gap = and_left _ _ gap

gap_step : (t : List ℕ) (counter : ℕ) (c : Carrier) (cs : List Carrier) → IsFront t → follows counter c ≡ false → to_come_behind t counter (c ∷ cs) ≡ sections_in false (c ∷ cs)
unfolding flow_behind
gap_step t counter c cs front gap =
    ap (λ (x : List (List ℕ)). x ++ sections_in (is_given_up t counter (c ∷ cs)) (c ∷ cs)) (ap (begun_in 0 t) (cond-false _ _ _ gap) ∙ front_none t front)
    ∙ ap (λ (up : Bool). sections_in up (c ∷ cs)) (gap_up t counter c cs gap)

-- a packet without start indicator
data_up : (t : List ℕ) (counter : ℕ) (c : Carrier) (cs : List Carrier) → IsFront t → c.starts ≡ false → follows counter c ≡ true →
    is_given_up t counter (c ∷ cs) ≡ is_given_up (left_open t c.payload) c.counter cs
unfolding is_given_up
data_up [] counter c cs not_begun data_only next = refl
data_up (_ ∷ _) counter c cs (begun b bytes h) data_only next =
    and_both next (cond-false _ _ _ data_only) ∙ sym (open_rest-up b bytes c.payload c.counter cs h)

data_step : (t : List ℕ) (counter : ℕ) (c : Carrier) (cs : List Carrier) → IsFront t → c.starts ≡ false → follows counter c ≡ true →
    to_come_behind t counter (c ∷ cs) ≡ begun_in 0 t c.payload ++ to_come_behind (left_open t c.payload) c.counter cs
unfolding flow_behind sections_in
data_step t counter c cs front data_only next =
    let left = left_open t c.payload in
    let flow : flow_behind counter (c ∷ cs) ≡ c.payload ++ flow_behind c.counter cs = cond-true _ _ _ next ∙ cond-false _ _ _ data_only in
    let rest : sections_in (is_given_up t counter (c ∷ cs)) (c ∷ cs) ≡ sections_in (is_given_up left c.counter cs) cs
    = cond-false _ _ _ data_only ∙ ap (λ (up : Bool). sections_in up cs) (data_up t counter c cs front data_only next) in
    ap (λ (x : List ℕ). begun_in 0 t x ++ sections_in (is_given_up t counter (c ∷ cs)) (c ∷ cs)) flow
    ∙ ap (λ (x : List (List ℕ)). begun_in 0 t (c.payload ++ flow_behind c.counter cs) ++ x) rest
    ∙ ap (λ (x : List (List ℕ)). x ++ sections_in (is_given_up left c.counter cs) cs) (goes_on t c.payload (flow_behind c.counter cs) front)
    ∙ append_assoc (begun_in 0 t c.payload) (begun_in 0 left (flow_behind c.counter cs)) (sections_in (is_given_up left c.counter cs) cs)

skip_step : (c : Carrier) (cs : List Carrier) → c.starts ≡ false → sections_in false (c ∷ cs) ≡ to_come_behind [] c.counter cs
unfolding sections_in
skip_step c cs data_only =
    cond-false _ _ _ data_only
    ∙ sym (ap (λ (x : List (List ℕ)). x ++ sections_in (is_given_up [] c.counter cs) cs) (none_begun (flow_behind c.counter cs)) ∙ ap (λ (up : Bool). sections_in up cs) (none_up c.counter cs))

-- a packet with start indicator
start_step : (up : Bool) (c : Carrier) (cs : List Carrier) → c.starts ≡ true →
    sections_in up (c ∷ cs) ≡ begun_in 0 (opening up c) [] ++ to_come_behind (unfinished 0 (opening up c)) c.counter cs
unfolding sections_in
start_step up c cs starts =
    let bytes = opening up c in
    let rest = sections_in (is_given_up (unfinished 0 bytes) c.counter cs) cs in
    cond-true _ _ _ starts
    ∙ ap (λ (x : List (List ℕ)). x ++ rest) (split 0 bytes (flow_behind c.counter cs))
    ∙ append_assoc (begun_in 0 bytes []) (begun_in 0 (unfinished 0 bytes) (flow_behind c.counter cs)) rest

start_up : (t : List ℕ) (counter : ℕ) (c : Carrier) (cs : List Carrier) → c.starts ≡ true → follows counter c ≡ true → is_given_up t counter (c ∷ cs) ≡ gives_up t (pointed c)
unfolding is_given_up
start_up [] counter c cs starts next = refl
start_up (b ∷ bytes) counter c cs starts next =
    and_both next (cond-true _ _ _ starts) ∙ sym (and_both {a = ltb 0 (length (b ∷ bytes))} {b = bring_too_long (b ∷ bytes) (pointed c)} (lt-ltb 0 (length (b ∷ bytes)) (omega arith)) refl)

pointer_step : (t : List ℕ) (counter : ℕ) (c : Carrier) (cs : List Carrier) → c.starts ≡ true → follows counter c ≡ true →
    to_come_behind t counter (c ∷ cs) ≡ begun_in 0 t (pointed c) ++ (begun_in 0 (opening (gives_up t (pointed c)) c) [] ++ to_come_behind (unfinished 0 (opening (gives_up t (pointed c)) c)) c.counter cs)
unfolding flow_behind
pointer_step t counter c cs starts next =
    ap (λ (x : List ℕ). begun_in 0 t x ++ sections_in (is_given_up t counter (c ∷ cs)) (c ∷ cs)) (cond-true _ _ _ next ∙ cond-true _ _ _ starts)
    ∙ ap (λ (x : List (List ℕ)). begun_in 0 t (pointed c) ++ x)
    (ap (λ (up : Bool). sections_in up (c ∷ cs)) (start_up t counter c cs starts next) ∙ start_step (gives_up t (pointed c)) c cs starts)

-- a packet of either kind, behind the one before it
next_step : (t : List ℕ) (counter : ℕ) (c : Carrier) (cs : List Carrier) → IsFront t → follows counter c ≡ true →
    to_come_behind t counter (c ∷ cs) ≡ completed t c ++ to_come_behind (left_behind t c) c.counter cs
next_step t counter c cs front next = elim (cases_Bool c.starts) [
  | inl starts ↦ pointer_step t counter c cs starts next
      ∙ sym (append_assoc (begun_in 0 t (pointed c)) (begun_in 0 (opening (gives_up t (pointed c)) c) []) _)
      ∙ sym (ap (λ (x : List (List ℕ)). x ++ to_come_behind (left_behind t c) c.counter cs) (cond-true _ _ _ starts)
      ∙ ap (λ (x : List ℕ). (begun_in 0 t (pointed c) ++ begun_in 0 (opening (gives_up t (pointed c)) c) []) ++ to_come_behind x c.counter cs) (cond-true _ _ _ starts))
  | inr data_only ↦ data_step t counter c cs front data_only next
      ∙ sym (ap (λ (x : List (List ℕ)). x ++ to_come_behind (left_behind t c) c.counter cs) (cond-false _ _ _ data_only)
      ∙ ap (λ (x : List ℕ). begun_in 0 t c.payload ++ to_come_behind x c.counter cs) (cond-false _ _ _ data_only))
]

-- a packet of either kind, behind which nothing was begun
first_step : (c : Carrier) (cs : List Carrier) → sections_in false (c ∷ cs) ≡ completed [] c ++ to_come_behind (left_behind [] c) c.counter cs
first_step c cs = elim (cases_Bool c.starts) [
  | inl starts ↦ start_step false c cs starts
      ∙ sym (ap (λ (x : List (List ℕ)). x ++ to_come_behind (left_behind [] c) c.counter cs) (cond-true _ _ _ starts ∙ ap (λ (x : List (List ℕ)). x ++ begun_in 0 (behind_pointer c) []) (none_begun (pointed c)))
      ∙ ap (λ (x : List ℕ). begun_in 0 (behind_pointer c) [] ++ to_come_behind x c.counter cs) (cond-true _ _ _ starts))
  | inr data_only ↦ skip_step c cs data_only
      ∙ sym (ap (λ (x : List (List ℕ)). x ++ to_come_behind (left_behind [] c) c.counter cs) (cond-false _ _ _ data_only ∙ none_begun c.payload)
      ∙ ap (λ (x : List ℕ). to_come_behind x c.counter cs) (cond-false _ _ _ data_only))
]

-- One packet that is taken, and one that is left out.
pub taken_step : (on : ℕ) (last : Option ℕ) (t : List ℕ) (p : List ℕ) (more : List (List ℕ)) → IsFront t → is_taken on last p ≡ true →
    to_come on last t (p ∷ more) ≡ completed (continued last t (carrier p)) (carrier p) ++ to_come on (Some (continuity_counter p)) (left_behind (continued last t (carrier p)) (carrier p)) more
unfolding to_come carriers
taken_step on None t p more front taken =
    ap (sections_in false) (cond-true _ _ _ taken) ∙ first_step (carrier p) (carriers on (Some (continuity_counter p)) more)
taken_step on (Some counter) t p more front taken =
    let c = carrier p in
    let cs = carriers on (Some (continuity_counter p)) more in
    let step = λ (x : List ℕ). completed x c ++ to_come_behind (left_behind x c) c.counter cs in
    ap (to_come_behind t counter) (cond-true _ _ _ taken) ∙
    elim (cases_Bool (follows counter c)) [
      | inl next ↦ next_step t counter c cs front next ∙ sym (ap step (cond-true _ _ _ next))
      | inr gap ↦ gap_step t counter c cs front gap ∙ first_step c cs ∙ sym (ap step (cond-false _ _ _ gap))
    ]

pub left_out_step : (on : ℕ) (last : Option ℕ) (t : List ℕ) (p : List ℕ) (more : List (List ℕ)) → is_taken on last p ≡ false →
    to_come on last t (p ∷ more) ≡ to_come on last t more
unfolding to_come carriers
left_out_step on None t p more left_out = ap (sections_in false) (cond-false _ _ _ left_out)
left_out_step on (Some counter) t p more left_out = ap (to_come_behind t counter) (cond-false _ _ _ left_out)

-- nothing comes of no packets
pub none_to_come : (on : ℕ) (last : Option ℕ) (t : List ℕ) → IsFront t → to_come on last t [] ≡ []
unfolding to_come carriers flow_behind sections_in
none_to_come on None t front = refl
none_to_come on (Some counter) t front = append-nil (begun_in 0 t []) ∙ front_none t front

-- what is kept behind a packet is the front of a section again
pub continued-is_front : (last : Option ℕ) (t : List ℕ) (c : Carrier) → IsFront t → IsFront (continued last t c)
continued-is_front None t c front = not_begun
continued-is_front (Some counter) t c front = elim (cases_Bool (follows counter c)) [
  | inl next ↦ rw (cond-true (follows counter c) t [] next) front
  | inr gap ↦ rw (cond-false (follows counter c) t [] gap) not_begun
]

pub left_behind-is_front : (t : List ℕ) (c : Carrier) → IsFront t → IsFront (left_behind t c)
left_behind-is_front t c front = elim (cases_Bool c.starts) [
  | inl starts ↦ rw (cond-true c.starts (unfinished 0 (opening (gives_up t (pointed c)) c)) (left_open t c.payload) starts) (front_of_rest 0 (opening (gives_up t (pointed c)) c))
  | inr data_only ↦ rw (cond-false c.starts (unfinished 0 (opening (gives_up t (pointed c)) c)) (left_open t c.payload) data_only) (left_open-is_front t c.payload front)
]
