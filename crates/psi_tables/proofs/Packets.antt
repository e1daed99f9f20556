-- Packets that carry bytes one after another, taken apart from the front.
use Rattle.std.proofs.Common.{◌≡◌, ℕ, suc, ◌+◌, ◌-◌, ◌/◌, ◌<◌, ◌++◌, ◌∷◌, [], ◌∙◌, Bool, true, false, List, length, take, drop, min, ap, sym, refl, arith}
use Rattle.std.specs.Prelude.{replicate}
use Rattle.std.proofs.lemmas.List.{length-drop, length-take, take_min, append_assoc}
use Rattle.psi_tables.specs.Head.{header, stuffed, packets, packet_count, section_packets}

-- one packet more, where a byte is left
pub packets_next : (starts : Bool) (pid counter : ℕ) (bytes : List ℕ) → 0 < length bytes
    → packets ((length bytes + 183) / 184) starts pid counter bytes
    ≡ header starts pid counter ++ stuffed bytes ++ packets ((length (drop 184 bytes) + 183) / 184) false pid (counter + 1) (drop 184 bytes)
unfolding packets
packets_next starts pid counter bytes some =
    let count : (length bytes + 183) / 184 ≡ suc ((length (drop 184 bytes) + 183) / 184) = rw (length-drop 184 bytes) (omega (arith, some)) in
    rw count refl

-- no packet, where none is
pub packets_none : (starts : Bool) (pid counter : ℕ) (bytes : List ℕ) → length bytes ≡ 0
    → packets ((length bytes + 183) / 184) starts pid counter bytes ≡ []
unfolding packets
packets_none starts pid counter bytes none = rw none refl

-- the first 184 bytes, and stuffing to the packet's end
pub stuffed_by : (bytes front : List ℕ) → front ≡ take (min 184 (length bytes)) bytes
    → front ++ replicate {A = ℕ} (188 - (4 + length front)) 255 ≡ stuffed bytes
stuffed_by bytes front is =
    let same : front ≡ take 184 bytes = is ∙ take_min 184 bytes in
    let long : length front ≡ min 184 (length bytes) = ap length same ∙ length-take 184 bytes in
    let stuffing : replicate {A = ℕ} (188 - (4 + length front)) 255 ≡ replicate (184 - length bytes) 255
    = ap (λ (count : ℕ). replicate {A = ℕ} count 255) (omega (arith, long)) in
    rw (stuffing, same) refl

-- behind the pointer_field the first 183 bytes of a section, and stuffing to the packet's end
pub stuffed_first : (section front : List ℕ) → front ≡ take (min 183 (length section)) section
    → 0 ∷ (front ++ replicate {A = ℕ} (188 - (5 + length front)) 255) ≡ stuffed (0 ∷ section)
stuffed_first section front is =
    let same : front ≡ take 183 section = is ∙ take_min 183 section in
    let long : length front ≡ min 183 (length section) = ap length same ∙ length-take 183 section in
    let stuffing : replicate {A = ℕ} (188 - (5 + length front)) 255 ≡ replicate (184 - length (0 ∷ section)) 255
    = ap (λ (count : ℕ). replicate {A = ℕ} count 255) (omega (arith, long)) in
    rw (stuffing, same) refl

-- the packets of a section, the first and those behind it
pub section_next : (pid counter : ℕ) (section : List ℕ)
    → section_packets pid counter section
    ≡ header true pid counter ++ stuffed (0 ∷ section) ++ packets ((length (drop 183 section) + 183) / 184) false pid (counter + 1) (drop 183 section)
unfolding packets
section_next pid counter section =
    let count : packet_count section ≡ suc ((length (drop 183 section) + 183) / 184) = rw (length-drop 183 section) (omega arith) in
    rw count refl

-- the first byte of a payload, written with the header
pub payload_behind : (before header : List ℕ) (first : ℕ) (payload behind : List ℕ)
    → before ++ (header ++ first ∷ []) ++ payload ++ behind ≡ before ++ header ++ (first ∷ (payload ++ behind))
payload_behind before header first payload behind =
    append_assoc (before ++ (header ++ first ∷ [])) payload behind
    ∙ append_assoc before (header ++ first ∷ []) (payload ++ behind)
    ∙ ap (λ list. before ++ list) (append_assoc header (first ∷ []) (payload ++ behind))
    ∙ sym (append_assoc before header (first ∷ (payload ++ behind)))

-- what stands behind a packet, and what stands before it
pub packet_between : (before header payload behind : List ℕ) → before ++ header ++ payload ++ behind ≡ before ++ (header ++ payload ++ behind)
packet_between before header payload behind =
    append_assoc (before ++ header) payload behind ∙ append_assoc before header (payload ++ behind)
    ∙ ap (λ list. before ++ list) (sym (append_assoc header payload behind))
