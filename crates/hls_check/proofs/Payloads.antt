-- Payloads joined carry what packets carry.
use Rattle.std.proofs.Common.{◌≡◌, ℕ, zero, suc, ◌+◌, ◌-◌, ◌*◌, ◌/◌, ◌≤◌, inl, inr, Bool, true, false, List, [], ◌∷◌, ◌++◌, length, take, drop, refl, sym, ap, ◌∙◌, arith, append_assoc, append-nil, length-append, length-drop}
use Rattle.std.specs.Prelude.{replicate}
use Rattle.std.proofs.lemmas.Bool.{cases_lt}
use Rattle.std.proofs.lemmas.List.{take_all, length-take-le, take-append-drop, drop-take}
use Rattle.std.proofs.Math.Seq.{take-append_seam, drop-append_seam, take-append-add}
use Rattle.psi_tables.specs.Section.{number_at}
use Rattle.psi_tables.specs.Head.{header, stuffed, packets, packet_count, section_packets}
use Rattle.psi_tables.proofs.Heads.{length-stuffed, length-packets, packets-first, section-first}
use Rattle.hls_check.specs.Heads.{payloads}

-- the first payload, and those behind it
first_payload : (n : ℕ) (starts : Bool) (pid counter : ℕ) (bytes rest : List ℕ)
    → payloads (suc n) (header starts pid counter ++ (stuffed bytes ++ rest)) ≡ stuffed bytes ++ payloads n rest
unfolding payloads
first_payload n starts pid counter bytes rest =
    ap (λ k. take k (stuffed bytes ++ rest) ++ payloads n (drop k (stuffed bytes ++ rest))) (sym (length-stuffed bytes))
    ∙ ap (λ x. x ++ payloads n (drop (length (stuffed bytes)) (stuffed bytes ++ rest))) (take-append_seam (stuffed bytes) rest)
    ∙ ap (λ x. stuffed bytes ++ payloads n x) (drop-append_seam (stuffed bytes) rest)

-- bytes that are stuffed, and what is left of them behind
stuffed_then : (bytes more : List ℕ) → take (length (drop 184 bytes)) more ≡ drop 184 bytes → take (length bytes) (stuffed bytes ++ more) ≡ bytes
stuffed_then bytes more later = elim (cases_lt 184 (length bytes)) [
  | inl lt ↦
      let none : 184 - length bytes ≡ 0 = omega arith in
      let full : stuffed bytes ≡ take 184 bytes = ap (λ k. take 184 bytes ++ replicate {A = ℕ} k 0xFF) none ∙ append-nil (take 184 bytes) in
      let long : length bytes ≡ length (take 184 bytes) + length (drop 184 bytes) = omega (arith, length-take-le 184 bytes (omega arith), length-drop 184 bytes) in
      ap (λ x. take (length bytes) (x ++ more)) full
      ∙ ap (λ k. take k (take 184 bytes ++ more)) long
      ∙ take-append-add (take 184 bytes) more (length (drop 184 bytes))
      ∙ ap (λ x. take 184 bytes ++ x) later
      ∙ take-append-drop 184 bytes
  | inr ge ↦
      let all : take 184 bytes ≡ bytes = take_all 184 bytes ge in
      let padding = replicate {A = ℕ} (184 - length bytes) 0xFF in
      ap (λ x. take (length bytes) ((x ++ padding) ++ more)) all
      ∙ ap (take (length bytes)) (append_assoc bytes padding more)
      ∙ take-append_seam bytes (padding ++ more)
]

none_left : (bytes : List ℕ) → length bytes ≡ 0 → [] ≡ bytes
none_left [] _ = refl
none_left (b ∷ bytes) e = absurd (omega (arith, e))

-- packets carry their bytes
payloads-packets : (n : ℕ) (starts : Bool) (pid counter : ℕ) (bytes rest : List ℕ) → length bytes ≤ 184 * n
    → take (length bytes) (payloads n (packets n starts pid counter bytes ++ rest)) ≡ bytes
payloads-packets zero starts pid counter bytes rest few =
    let none : length bytes ≡ 0 = omega arith in
    ap (λ k. take k (payloads zero (packets zero starts pid counter bytes ++ rest))) none ∙ none_left bytes none
payloads-packets (suc n) starts pid counter bytes rest few =
    let behind = packets n false pid (counter + 1) (drop 184 bytes) ++ rest in
    let later = payloads-packets n false pid (counter + 1) (drop 184 bytes) rest (omega (arith, length-drop 184 bytes)) in
    ap (λ x. take (length bytes) (payloads (suc n) x)) (packets-first n starts pid counter bytes rest)
    ∙ ap (take (length bytes)) (first_payload n starts pid counter bytes behind)
    ∙ stuffed_then bytes (payloads n behind) later

-- how many bytes they are
pub length-payloads : (n : ℕ) (packets : List ℕ) → 188 * n ≤ length packets → length (payloads n packets) ≡ 184 * n
unfolding payloads
length-payloads zero packets there = refl
length-payloads (suc n) packets there =
    length-append (take 184 (drop 4 packets)) (payloads n (drop 188 packets))
    ∙ omega (arith, length-take-le 184 (drop 4 packets) (omega (arith, length-drop 4 packets)), length-payloads n (drop 188 packets) (omega (arith, length-drop 188 packets)))

-- the first packet tells the section_length
pub number-told : (pid counter : ℕ) (section rest : List ℕ) → 16 ≤ length section
    → number_at (section_packets pid counter section ++ rest) 6 ≡ number_at section 1
number-told pid counter [] rest long = absurd (omega (arith, long))
number-told pid counter (a ∷ []) rest long = absurd (omega (arith, long))
number-told pid counter (a ∷ b ∷ []) rest long = absurd (omega (arith, long))
number-told pid counter (a ∷ b ∷ c ∷ section) rest long =
    ap (λ x. number_at x 6) (section-first pid counter (a ∷ b ∷ c ∷ section) rest)

-- there are as many packets as the section takes
pub length-section : (pid counter : ℕ) (section rest : List ℕ) → 188 * packet_count section ≤ length (section_packets pid counter section ++ rest)
length-section pid counter section rest =
    omega (arith, length-append (section_packets pid counter section) rest, length-packets (packet_count section) true pid counter (0 ∷ section))

-- what is told is the length, and the payloads carry the section behind the pointer_field
pub section-carried : (pid counter len : ℕ) (section rest : List ℕ) → len ≡ length section
    → take len (drop 1 (payloads ((len + 184) / 184) (section_packets pid counter section ++ rest))) ≡ section
section-carried pid counter len section rest is =
    let count = packet_count section in
    let few : length (0 ∷ section) ≤ 184 * count = omega arith in
    let longer : 1 + length section ≡ length (0 ∷ section) = omega arith in
    ap (λ k. take k (drop 1 (payloads ((k + 184) / 184) (section_packets pid counter section ++ rest)))) is
    ∙ sym (drop-take 1 (length section) (payloads count (section_packets pid counter section ++ rest)))
    ∙ ap (λ k. drop 1 (take k (payloads count (section_packets pid counter section ++ rest)))) longer
    ∙ ap (drop 1) (payloads-packets count true pid counter (0 ∷ section) rest few)
