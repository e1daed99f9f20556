-- The sections that the packets of a PID carry (ISO/IEC 13818-1, 2.4.4), over the whole list of packets that came. A
-- packet is its 188 bytes.
use Rattle.std.specs.Prelude.{◌≡◌, ℕ, ◌≤◌, zero, suc, ◌+◌, ◌%◌, Bool, false, not, ◌==◌, ◌&&◌, ◌||◌, nat_lt, nat_le, if◌then◌else◌, List, [], ◌∷◌, ◌++◌, length, take, drop, slice_index, Option, Some, None}
use Rattle.ts_packet.specs.Fields.{pid, payload_unit_start_indicator, is_scrambled, continuity_counter, payload}
use Rattle.psi_tables.specs.Section.{table_id, section_length}

-- what counts of a packet that carries parts of sections
pub record Carrier : Type 0 where
  -- payload_unit_start_indicator: a section begins in it
  pub starts : Bool
  -- continuity_counter
  pub counter : ℕ
  pub payload : List ℕ

abbrev pub carrier : List ℕ → Carrier
carrier p = record { starts = payload_unit_start_indicator p; counter = continuity_counter p; payload = payload p }

-- a packet with the continuity_counter of the one before (2.4.3.3)
abbrev pub is_repeat : Option ℕ → List ℕ → Bool
is_repeat None p = false
is_repeat (Some counter) p = continuity_counter p == counter

-- a packet of this PID that has payload, isn't scrambled, and is no repeat of the one before
abbrev pub is_taken : ℕ → Option ℕ → List ℕ → Bool
is_taken on before p = (pid p == on) && (not (is_scrambled p) && (nat_lt 0 (length (payload p)) && not (is_repeat before p)))

-- the packets that carry the sections of this PID, behind one with this counter or behind none
unfoldable pub carriers : ℕ → Option ℕ → List (List ℕ) → List Carrier
carriers on before [] = []
carriers on before (p ∷ ps) = if is_taken on before p then carrier p ∷ carriers on (Some (continuity_counter p)) ps else carriers on before ps

-- the continuity_counter of the last of these packets that carries sections of this PID, behind one with this counter or behind none
unfoldable pub last_counter : ℕ → Option ℕ → List (List ℕ) → Option ℕ
last_counter on before [] = before
last_counter on before (p ∷ ps) = last_counter on (if is_taken on before p then Some (continuity_counter p) else before) ps

-- no packet is missing between one with this counter and this one (2.4.3.3)
abbrev pub follows : ℕ → Carrier → Bool
follows counter c = c.counter == (counter + 1) % 16

-- pointer_field: how many bytes lie between it and the first section that begins in the payload (2.4.4.2)
abbrev pub pointer_field : Carrier → ℕ
pointer_field c = slice_index c.payload 0

-- the bytes of a packet with start indicator that belong to the section begun before it: none where they pass the
-- payload's end
abbrev pub pointed : Carrier → List ℕ
pointed c = if nat_lt (pointer_field c) (length c.payload) then take (pointer_field c) (drop 1 c.payload) else []

-- the bytes of a packet with start indicator in which sections begin
abbrev pub behind_pointer : Carrier → List ℕ
behind_pointer c = drop (1 + pointer_field c) c.payload

-- A byte FF where a table_id would stand is stuffing (2.4.4).
abbrev pub is_stuffing : List ℕ → Bool
is_stuffing s = table_id s == 0xFF

-- a whole section stands at the front: it has 3 bytes and then section_length bytes, at most 1021
abbrev pub is_whole : List ℕ → Bool
is_whole s = not (is_stuffing s) && (nat_le 3 (length s) && (nat_le (section_length s) 1021 && nat_le (3 + section_length s) (length s)))

-- a section stands at the front of which not all bytes are there
abbrev pub is_open : List ℕ → Bool
is_open s = not (is_stuffing s) && (nat_lt (length s) 3 || (nat_le (section_length s) 1021 && nat_lt (length s) (3 + section_length s)))

-- it has the length that it tells
pub record IsSection (s : List ℕ) : Type 0 where
  pub long : length s ≡ 3 + section_length s
  pub most : section_length s ≤ 1021

-- the section at the front
abbrev pub first_section : List ℕ → List ℕ
first_section s = take (3 + section_length s) s

-- The sections that begin in these bytes, one behind another, where the bytes of `flow` come behind; `left` bytes are
-- left of the section before.
unfoldable pub begun_in : ℕ → List ℕ → List ℕ → List (List ℕ)
begun_in left [] flow = []
begun_in (suc left) (b ∷ bytes) flow = begun_in left bytes flow
begun_in zero (b ∷ bytes) flow =
    if is_whole ((b ∷ bytes) ++ flow)
    then first_section ((b ∷ bytes) ++ flow) ∷ begun_in (2 + section_length ((b ∷ bytes) ++ flow)) bytes flow
    else []

-- the bytes that come for a section behind a packet with this counter: up to a packet that is missing, or to the
-- pointer's bytes of the next packet with start indicator
unfoldable pub flow_behind : ℕ → List Carrier → List ℕ
flow_behind counter [] = []
flow_behind counter (c ∷ cs) = if follows counter c then (if c.starts then pointed c else c.payload ++ flow_behind c.counter cs) else []

-- the front of the section that begins last in these bytes and doesn't end in them
unfoldable pub unfinished : ℕ → List ℕ → List ℕ
unfinished left [] = []
unfinished (suc left) (b ∷ bytes) = unfinished left bytes
unfinished zero (b ∷ bytes) =
    if is_whole (b ∷ bytes) then unfinished (2 + section_length (b ∷ bytes)) bytes
    else (if is_open (b ∷ bytes) then b ∷ bytes else [])

-- these bytes bring the section_length of a section that was begun, and it is above 1021
abbrev pub bring_too_long : List ℕ → List ℕ → Bool
bring_too_long begun more = nat_lt (length begun) 3 && (nat_le 3 (length (begun ++ more)) && nat_lt 1021 (section_length (begun ++ more)))

-- Whether the section of which so much is there is given up in the next packet with start indicator, and with it the
-- rest of that packet, since the pointer's bytes bring a section_length above 1021.
unfoldable pub is_given_up : List ℕ → ℕ → List Carrier → Bool
is_given_up [] counter cs = false
is_given_up (b ∷ begun) counter [] = false
is_given_up (b ∷ begun) counter (c ∷ cs) =
    follows counter c && (if c.starts then bring_too_long (b ∷ begun) (pointed c) else is_given_up ((b ∷ begun) ++ c.payload) c.counter cs)

-- the bytes of a packet with start indicator in which sections begin: none where its rest was given up
abbrev pub opening : Bool → Carrier → List ℕ
opening given_up c = if given_up then [] else behind_pointer c

-- The sections that begin in these packets; `given_up` says that nothing begins in the first with start indicator.
unfoldable pub sections_in : Bool → List Carrier → List (List ℕ)
sections_in given_up [] = []
sections_in given_up (c ∷ cs) =
    if c.starts
    then begun_in 0 (opening given_up c) (flow_behind c.counter cs) ++ sections_in (is_given_up (unfinished 0 (opening given_up c)) c.counter cs) cs
    else sections_in given_up cs

-- the whole sections that the packets of this PID carry, among packets of all PIDs
unfoldable pub sections : ℕ → List (List ℕ) → List (List ℕ)
sections on ps = sections_in false (carriers on None ps)
