-- The sections of packets of bytes are made of bytes.
use Rattle.std.proofs.Common.{ℕ, zero, suc, ◌+◌, Bool, true, false, List, [], ◌∷◌, ◌++◌, length, take, drop, Option, Some, None}
use Rattle.std.specs.Prelude.{if◌then◌else◌, nat_lt}
use Rattle.std.specs.List.{All}
use Rattle.std.proofs.lemmas.List.Elements.{All-nil, All-cons, All-head, All-tail, All-append, All-take, All-drop}
use Rattle.ts_packet.specs.Fields.{continuity_counter, has_payload, has_adaptation_field, adaptation_field_length, payload}
use Rattle.ghost_list.specs.Bytes.{IsByte, AreBytes}
use Rattle.ghost_list.proofs.ByteLists.{both_bytes, no_bytes}
use Rattle.psi_tables.specs.Section.{section_length}
use Rattle.psi_tables.specs.Sections.{Carrier, carrier, carriers, is_taken, follows, pointer_field, pointed, behind_pointer, is_whole, first_section, begun_in, flow_behind, unfinished, is_given_up, opening, sections_in, sections}

-- a list, or none
pub all_if : {A : Type 0} (P : A → Type 0) (t : Bool) (xs : List A) → All P xs → All P (if t then xs else [])
all_if P true xs all = all
all_if P false xs all = All-nil P

either : {A : Type 0} (P : A → Type 0) (t : Bool) (xs ys : List A) → All P xs → All P ys → All P (if t then xs else ys)
either P true xs ys a b = a
either P false xs ys a b = b

abbrev Carries : Carrier → Type 0
Carries c = AreBytes c.payload

of-payload : (p : List ℕ) → AreBytes p → AreBytes (payload p)
of-payload p all =
    let size = if has_adaptation_field p then 5 + adaptation_field_length p else 4 in
    all_if IsByte (has_payload p) (drop size p) (All-drop IsByte size p all)

of-carriers : (on : ℕ) (before : Option ℕ) (ps : List (List ℕ)) → All AreBytes ps → All Carries (carriers on before ps)
unfolding carriers
of-carriers on before [] all = All-nil Carries
of-carriers on before (p ∷ ps) all =
    either Carries (is_taken on before p) (carrier p ∷ carriers on (Some (continuity_counter p)) ps) (carriers on before ps)
    (All-cons Carries (carrier p) (carriers on (Some (continuity_counter p)) ps) (of-payload p (All-head AreBytes p ps all)) (of-carriers on (Some (continuity_counter p)) ps (All-tail AreBytes p ps all)))
    (of-carriers on before ps (All-tail AreBytes p ps all))

of-pointed : (c : Carrier) → Carries c → AreBytes (pointed c)
of-pointed c all =
    all_if IsByte (nat_lt (pointer_field c) (length c.payload)) (take (pointer_field c) (drop 1 c.payload))
    (All-take IsByte (pointer_field c) (drop 1 c.payload) (All-drop IsByte 1 c.payload all))

of-flow : (counter : ℕ) (cs : List Carrier) → All Carries cs → AreBytes (flow_behind counter cs)
unfolding flow_behind
of-flow counter [] all = no_bytes
of-flow counter (c ∷ cs) all =
    all_if IsByte (follows counter c) (if c.starts then pointed c else c.payload ++ flow_behind c.counter cs)
    (either IsByte c.starts (pointed c) (c.payload ++ flow_behind c.counter cs) (of-pointed c (All-head Carries c cs all))
    (both_bytes c.payload (flow_behind c.counter cs) (All-head Carries c cs all) (of-flow c.counter cs (All-tail Carries c cs all))))

of-begun : (left : ℕ) (bytes flow : List ℕ) → AreBytes bytes → AreBytes flow → All AreBytes (begun_in left bytes flow)
unfolding begun_in
of-begun left [] flow a f = All-nil AreBytes
of-begun (suc left) (b ∷ bytes) flow a f = of-begun left bytes flow (All-tail IsByte b bytes a) f
of-begun zero (b ∷ bytes) flow a f =
    let front = (b ∷ bytes) ++ flow in
    let rest = begun_in (2 + section_length front) bytes flow in
    all_if AreBytes (is_whole front) (first_section front ∷ rest)
    (All-cons AreBytes (first_section front) rest (All-take IsByte (3 + section_length front) front (both_bytes (b ∷ bytes) flow a f))
    (of-begun (2 + section_length front) bytes flow (All-tail IsByte b bytes a) f))

of-opening : (given_up : Bool) (c : Carrier) → Carries c → AreBytes (opening given_up c)
of-opening given_up c all = either IsByte given_up [] (behind_pointer c) no_bytes (All-drop IsByte (1 + pointer_field c) c.payload all)

of-sections_in : (given_up : Bool) (cs : List Carrier) → All Carries cs → All AreBytes (sections_in given_up cs)
unfolding sections_in
of-sections_in given_up [] all = All-nil AreBytes
of-sections_in given_up (c ∷ cs) all =
    let mine = All-head Carries c cs all in
    let rest = All-tail Carries c cs all in
    let here = begun_in 0 (opening given_up c) (flow_behind c.counter cs) in
    let next = is_given_up (unfinished 0 (opening given_up c)) c.counter cs in
    either AreBytes c.starts (here ++ sections_in next cs) (sections_in given_up cs)
    (All-append AreBytes here (sections_in next cs)
    (of-begun 0 (opening given_up c) (flow_behind c.counter cs) (of-opening given_up c mine) (of-flow c.counter cs rest))
    (of-sections_in next cs rest))
    (of-sections_in given_up cs rest)

pub of-sections : (on : ℕ) (ps : List (List ℕ)) → All AreBytes ps → All AreBytes (sections on ps)
unfolding sections
of-sections on ps all = of-sections_in false (carriers on None ps) (of-carriers on None ps all)
