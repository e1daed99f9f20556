-- The fields of a transport packet, as functions of its 188 bytes (ISO/IEC 13818-1, 2.4.3.2 to 2.4.3.5).
use Rattle.std.specs.Prelude.{ℕ, ◌+◌, ◌==◌, ◌&&◌, not, nat_lt, Bool, List, [], ◌∷◌, drop, slice_index, Option, Some, None, if◌then◌else◌}
use Rattle.ts_packet.specs.Bits.{bits, flag}
use Rattle.ts_packet.specs.declared.packet.PacketFault.{PacketFault}
use Rattle.ts_packet.specs.declared.packet.PacketFault.TheVariants.{NoSync, Errored, Reserved, LongAdaptation}

-- the first four bytes
abbrev pub header : List ℕ → List ℕ
header p = slice_index p 0 ∷ slice_index p 1 ∷ slice_index p 2 ∷ slice_index p 3 ∷ []

abbrev pub sync_byte : List ℕ → ℕ
sync_byte p = bits (header p) 0 8

abbrev pub transport_error_indicator : List ℕ → Bool
transport_error_indicator p = flag (header p) 8

abbrev pub payload_unit_start_indicator : List ℕ → Bool
payload_unit_start_indicator p = flag (header p) 9

-- behind transport_priority
abbrev pub pid : List ℕ → ℕ
pid p = bits (header p) 11 13

abbrev pub transport_scrambling_control : List ℕ → ℕ
transport_scrambling_control p = bits (header p) 24 2

abbrev pub adaptation_field_control : List ℕ → ℕ
adaptation_field_control p = bits (header p) 26 2

abbrev pub continuity_counter : List ℕ → ℕ
continuity_counter p = bits (header p) 28 4

abbrev pub is_scrambled : List ℕ → Bool
is_scrambled p = not (transport_scrambling_control p == 0)

-- control 10 or 11
abbrev pub has_adaptation_field : List ℕ → Bool
has_adaptation_field p = flag (header p) 26

-- control 01 or 11
abbrev pub has_payload : List ℕ → Bool
has_payload p = flag (header p) 27

abbrev pub adaptation_field_length : List ℕ → ℕ
adaptation_field_length p = slice_index p 4

-- the second flag of an adaptation field that has flags
abbrev pub random_access_indicator : List ℕ → Bool
random_access_indicator p =
    has_adaptation_field p && nat_lt 0 (adaptation_field_length p) && flag (slice_index p 5 ∷ []) 1

-- an adaptation field that passes the packet's end, or leaves no byte to a payload that is said to follow
abbrev pub is_adaptation_field_long : List ℕ → Bool
is_adaptation_field_long p =
    has_adaptation_field p && nat_lt (if has_payload p then 182 else 183) (adaptation_field_length p)

-- what lies behind the header and the adaptation field, where the control says that there is a payload
abbrev pub payload : List ℕ → List ℕ
payload p = if has_payload p then drop (if has_adaptation_field p then 5 + adaptation_field_length p else 4) p else []

-- why the bytes are no packet to be looked at further: the first of these that stands
abbrev pub fault_of : List ℕ → Option PacketFault
fault_of p =
    if not (sync_byte p == 0x47) then Some NoSync
    else (if transport_error_indicator p then Some Errored
    else (if adaptation_field_control p == 0 then Some Reserved
    else (if is_adaptation_field_long p then Some LongAdaptation
    else None)))
