-- The packets of a list as they are found from its front.
use Rattle.std.proofs.Common.{◌≡◌, ℕ, zero, suc, ◌+◌, ◌-◌, ◌*◌, ◌<◌, ◌≤◌, Bool, true, false, cond, ◌==◌, leb, List, [], ◌∷◌, ◌++◌, length, take, drop, get_or, replicate, refl, sym, ◌∙◌, ap, arith, length-append, length-drop, inl, inr}
use Rattle.std.proofs.lemmas.Bool.{cond-true, cond-false, cases_Bool, cases_order, both_ways, and_left, and_right, or_from, lt-leb, le-leb}
use Rattle.std.proofs.lemmas.List.{take-append-le, drop-append-le, get_or_append_left, get_or-append_right, get_or-replicate, length-replicate}
use Rattle.ts_packet.specs.Packets.{begins, is_open, packets_from, packets, rest_from, rest_of, skipped}

-- the bytes left of a packet are passed over
pub packets_from-left : (locked : Bool) (n : ℕ) (s : List ℕ) → packets_from locked n s ≡ packets_from locked 0 (drop n s)
unfolding packets_from
packets_from-left locked zero s = refl
packets_from-left locked (suc n) [] = refl
packets_from-left locked (suc n) (b ∷ s) = packets_from-left locked n s

-- no packet begins in fewer than 188 bytes
pub begins-short : (locked : Bool) (s : List ℕ) → length s < 188 → begins locked s ≡ false
begins-short true s few = and_left _ _ (lt-leb 188 (length s) few)
begins-short false s few = and_left _ _ (and_left _ _ (lt-leb 188 (length s) few))

-- a packet begins at the front
pub packets_from-packet : (locked : Bool) (s : List ℕ) → begins locked s ≡ true → packets_from locked 0 s ≡ take 188 s ∷ packets_from true 0 (drop 188 s)
unfolding packets_from
packets_from-packet true [] begun = cc
packets_from-packet false [] begun = cc
packets_from-packet locked (b ∷ s) begun = cond-true _ _ _ begun ∙ ap (λ (ps : List (List ℕ)). take 188 (b ∷ s) ∷ ps) (packets_from-left true 187 s)

-- none begins there
pub packets_from-other : (locked : Bool) (s : List ℕ) → begins locked s ≡ false → packets_from locked 0 s ≡ packets_from false 0 (drop 1 s)
unfolding packets_from
packets_from-other locked [] unbegun = refl
packets_from-other locked (b ∷ s) unbegun = cond-false _ _ _ unbegun

pub packets_from-short : (locked : Bool) (s : List ℕ) → length s < 188 → packets_from locked 0 s ≡ []
packets_from-short locked [] few = unfold packets_from in refl
packets_from-short locked (b ∷ s) few =
    packets_from-other locked (b ∷ s) (begins-short locked (b ∷ s) few) ∙ packets_from-short false s (omega arith)

-- no packet lies in zeros
packets_from-zeros : (locked : Bool) (n : ℕ) → packets_from locked 0 (replicate n 0) ≡ []
packets_from-zeros locked zero = unfold packets_from in refl
packets_from-zeros true (suc n) = packets_from-other true (0 ∷ replicate n 0) (and_right _ _ refl) ∙ packets_from-zeros false n
packets_from-zeros false (suc n) = packets_from-other false (0 ∷ replicate n 0) (and_left _ _ (and_right _ _ refl)) ∙ packets_from-zeros false n

-- a lock point is none where a zero follows 376 bytes behind
begins-zeros : (s : List ℕ) (n : ℕ) → 0 < length s → length s ≤ 376 → 376 ≤ n → begins false (s ++ replicate n 0) ≡ false
begins-zeros s n some few enough =
    let far : 376 < length (s ++ replicate n 0) = omega (arith, length-append s (replicate n 0), length-replicate {A = ℕ} n 0) in
    let zero_there : get_or (s ++ replicate n 0) 376 0 ≡ 0 =
    get_or-append_right s (replicate n 0) (length s) 376 0 refl few ∙ get_or-replicate n (376 - length s) 0 0 (omega arith) in
    and_right _ _ (and_right _ _ (or_from _ _ (lt-leb _ 376 far) (ap (λ (x : ℕ). x == 71) zero_there)))

-- bytes that aren't decided give no packet where enough zeros follow
pub packets_from-then_zeros : (s : List ℕ) (n : ℕ) → length s ≤ 376 → 376 ≤ n → packets_from false 0 (s ++ replicate n 0) ≡ []
packets_from-then_zeros [] n few enough = packets_from-zeros false n
packets_from-then_zeros (b ∷ s) n few enough =
    packets_from-other false _ (begins-zeros (b ∷ s) n (omega arith) few enough) ∙ packets_from-then_zeros s n (omega arith) enough

-- enough bytes tell whether a packet begins, whatever follows
pub begins-append : (locked : Bool) (s more : List ℕ) → cond locked 188 377 ≤ length s → begins locked (s ++ more) ≡ begins locked s
begins-append true s more enough =
    let longer : length (s ++ more) ≡ length s + length more = length-append s more in
    let fit : leb 188 (length (s ++ more)) ≡ leb 188 (length s) = le-leb 188 _ (omega arith) ∙ sym (le-leb 188 _ enough) in
    let first : get_or (s ++ more) 0 0 ≡ get_or s 0 0 = get_or_append_left s more 0 0 (omega arith) in
    cc
begins-append false s more enough =
    let longer : length (s ++ more) ≡ length s + length more = length-append s more in
    let fit : leb 188 (length (s ++ more)) ≡ leb 188 (length s) = le-leb 188 _ (omega arith) ∙ sym (le-leb 188 _ (omega arith)) in
    let beyond : leb (length (s ++ more)) 188 ≡ leb (length s) 188 = lt-leb _ 188 (omega arith) ∙ sym (lt-leb _ 188 (omega arith)) in
    let beyond_two : leb (length (s ++ more)) 376 ≡ leb (length s) 376 = lt-leb _ 376 (omega arith) ∙ sym (lt-leb _ 376 (omega arith)) in
    let first : get_or (s ++ more) 0 0 ≡ get_or s 0 0 = get_or_append_left s more 0 0 (omega arith) in
    let second : get_or (s ++ more) 188 0 ≡ get_or s 188 0 = get_or_append_left s more 0 188 (omega arith) in
    let third : get_or (s ++ more) 376 0 ≡ get_or s 376 0 = get_or_append_left s more 0 376 (omega arith) in
    cc

pub packets_from-packet_append : (locked : Bool) (s more : List ℕ) → 188 ≤ length s → begins locked (s ++ more) ≡ true
    → packets_from locked 0 (s ++ more) ≡ take 188 s ∷ packets_from true 0 (drop 188 s ++ more)
packets_from-packet_append locked s more long begun = packets_from-packet locked (s ++ more) begun ∙ rw (take-append-le, drop-append-le) refl

pub packets_from-other_append : (locked : Bool) (s more : List ℕ) → 0 < length s → begins locked (s ++ more) ≡ false
    → packets_from locked 0 (s ++ more) ≡ packets_from false 0 (drop 1 s ++ more)
packets_from-other_append locked s more some unbegun = packets_from-other locked (s ++ more) unbegun ∙ rw drop-append-le refl

-- as many bytes as the packets have are there
length-packets_from : (n : ℕ) (locked : Bool) (s : List ℕ) → length s ≤ n → 188 * length (packets_from locked 0 s) ≤ length s
length-packets_from zero locked s few = omega (arith, ap length (packets_from-short locked s (omega arith)))
length-packets_from (suc n) locked s few = elim (cases_Bool (begins locked s)) [
  | inl begun ↦
      let whole : 188 ≤ length s = elim (cases_order 188 (length s)) [
        | inl e ↦ omega arith
        | inr o ↦ elim o [ inl lt ↦ omega arith | inr gt ↦ absurd (both_ways (begins locked s) (begins-short locked s gt) begun) ]
      ] in
      let rest = length-packets_from n true (drop 188 s) (omega (arith, length-drop 188 s)) in
      omega (arith, ap length (packets_from-packet locked s begun), rest, length-drop 188 s)
  | inr unbegun ↦
      let rest = length-packets_from n false (drop 1 s) (omega (arith, length-drop 1 s)) in
      omega (arith, ap length (packets_from-other locked s unbegun), rest, length-drop 1 s)
]

pub skipped-packets : (s : List ℕ) → skipped s + 188 * length (packets s) ≡ length s
unfolding skipped packets
skipped-packets s = let few = length-packets_from (length s) false s (omega arith) in omega arith

-- the rest behind the bytes that are left of a packet
pub rest_from-left : (locked : Bool) (n : ℕ) (s : List ℕ) → rest_from locked n s ≡ rest_from locked 0 (drop n s)
unfolding rest_from
rest_from-left locked zero s = refl
rest_from-left locked (suc n) [] = refl
rest_from-left locked (suc n) (b ∷ s) = rest_from-left locked n s

-- too few bytes tell at the front
pub rest_from-short : (locked : Bool) (s : List ℕ) → is_open locked s ≡ true → rest_from locked 0 s ≡ record { locked = locked; bytes = s }
unfolding rest_from
rest_from-short locked [] few = refl
rest_from-short locked (b ∷ s) few = cond-true _ _ _ few

-- a packet begins at the front
pub rest_from-packet : (locked : Bool) (s more : List ℕ) → 188 ≤ length s → is_open locked (s ++ more) ≡ false → begins locked (s ++ more) ≡ true
    → rest_from locked 0 (s ++ more) ≡ rest_from true 0 (drop 188 s ++ more)
unfolding rest_from
rest_from-packet locked [] more long enough begun = absurd (omega (arith, long))
rest_from-packet locked (b ∷ s) more long enough begun =
    cond-false _ _ _ enough ∙ cond-true _ _ _ begun ∙ rest_from-left true 187 (s ++ more) ∙ ap (rest_from true 0) (drop-append-le 187 s more (omega (arith, long)))

-- none begins there
pub rest_from-other : (locked : Bool) (s more : List ℕ) → 0 < length s → is_open locked (s ++ more) ≡ false → begins locked (s ++ more) ≡ false
    → rest_from locked 0 (s ++ more) ≡ rest_from false 0 (drop 1 s ++ more)
unfolding rest_from
rest_from-other locked [] more some enough unbegun = absurd (omega (arith, some))
rest_from-other locked (b ∷ s) more some enough unbegun = cond-false _ _ _ enough ∙ cond-false _ _ _ unbegun

-- enough bytes tell, whatever follows
pub open-not-append : (locked : Bool) (s more : List ℕ) → cond locked 188 377 ≤ length s → is_open locked (s ++ more) ≡ false
open-not-append true s more enough = lt-leb _ 187 (omega (arith, length-append s more, enough))
open-not-append false s more enough = lt-leb _ 376 (omega (arith, length-append s more, enough))

-- no more are left than there were
rest_from-least : (n : ℕ) (locked : Bool) (left : ℕ) (s : List ℕ) → length s ≤ n → length (rest_from locked left s).bytes ≤ length s
unfolding rest_from
rest_from-least n locked left [] few = omega arith
rest_from-least zero locked left (b ∷ s) few = absurd (omega (arith, few))
rest_from-least (suc n) locked (suc left) (b ∷ s) few = let rest = rest_from-least n locked left s (omega (arith, few)) in omega (arith, rest)
rest_from-least (suc n) locked zero (b ∷ s) few = elim (cases_Bool (is_open locked (b ∷ s))) [
  | inl o ↦ rw (cond-true _ _ _ o) (omega arith)
  | inr o ↦ elim (cases_Bool (begins locked (b ∷ s))) [
    | inl begun ↦ let rest = rest_from-least n true 187 s (omega (arith, few)) in rw (cond-false _ _ _ o, cond-true _ _ _ begun) (omega (arith, rest))
    | inr unbegun ↦ let rest = rest_from-least n false 0 s (omega (arith, few)) in rw (cond-false _ _ _ o, cond-false _ _ _ unbegun) (omega (arith, rest))
  ]
]

pub rest_of-least : (s : List ℕ) → length (rest_of s).bytes ≤ length s
unfolding rest_of
rest_of-least s = rest_from-least (length s) false 0 s (omega arith)
