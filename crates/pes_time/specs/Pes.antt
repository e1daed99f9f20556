-- The presentation time stamp of a PES packet that begins in a transport packet's payload, as a function of the
-- transport packet's 188 bytes (ISO/IEC 13818-1, 2.4.3.6 and 2.4.3.7).
use Rattle.std.specs.Prelude.{ℕ, ◌+◌, ◌*◌, ◌^◌, ◌==◌, ◌&&◌, ◌||◌, not, nat_le, Bool, List, [], ◌∷◌, length, slice_index, Option, Some, None, if◌then◌else◌}
use Rattle.ts_packet.specs.Bits.{bits}
use Rattle.ts_packet.specs.Fields.{payload, is_scrambled}

abbrev pub packet_start_code_prefix : List ℕ → ℕ
packet_start_code_prefix s = bits (slice_index s 0 ∷ slice_index s 1 ∷ slice_index s 2 ∷ []) 0 24

-- PES_packet_length stands behind it, in two bytes
abbrev pub stream_id : List ℕ → ℕ
stream_id s = slice_index s 3

-- 1110 and the number of a video stream (2.4.3.7, table of stream_id)
abbrev pub is_video_stream : ℕ → Bool
is_video_stream id = bits (id ∷ []) 0 4 == 14

-- the bits that stand as '10' in front of the flags
abbrev pub marker_10 : List ℕ → ℕ
marker_10 s = bits (slice_index s 6 ∷ []) 0 2

abbrev pub PTS_DTS_flags : List ℕ → ℕ
PTS_DTS_flags s = bits (slice_index s 7 ∷ []) 0 2

abbrev pub PES_header_data_length : List ℕ → ℕ
PES_header_data_length s = slice_index s 8

-- the five bytes behind the length: four bits, three of the PTS, a marker, fifteen, a marker, fifteen, a marker
abbrev pub pts_field : List ℕ → List ℕ
pts_field s = slice_index s 9 ∷ slice_index s 10 ∷ slice_index s 11 ∷ slice_index s 12 ∷ slice_index s 13 ∷ []

-- PTS[32..30], PTS[29..15] and PTS[14..0] as one number
abbrev pub pts_number : List ℕ → ℕ
pts_number field = bits field 4 3 * 2 ^ 30 + bits field 8 15 * 2 ^ 15 + bits field 24 15

-- the start code, and a stream_id of video
abbrev pub starts_video : List ℕ → Bool
starts_video s = packet_start_code_prefix s == 1 && is_video_stream (stream_id s)

-- '10', flags that say that a PTS follows, and room for it
abbrev pub tells_pts : List ℕ → Bool
tells_pts s = marker_10 s == 2 && (PTS_DTS_flags s == 2 || PTS_DTS_flags s == 3) && nat_le 5 (PES_header_data_length s)

-- the bytes begin as a PES packet of video that has a PTS, and reach to the PTS's end
abbrev pub has_pts : List ℕ → Bool
has_pts s = nat_le 14 (length s) && starts_video s && tells_pts s

-- the PTS that a transport packet brings, if it brings one
unfoldable pub pts_of : List ℕ → Option ℕ
pts_of p = if not (is_scrambled p) && has_pts (payload p) then Some (pts_number (pts_field (payload p))) else None
