-- Fair turns: sources that are read in turn and are behind by very different numbers of bytes catch up together.
use Rattle.std.specs.Prelude.{ℕ, ◌+◌, ◌-◌, ◌*◌, ◌/◌, ◌^◌, List, [], ◌∷◌, Option, None, Some, min, max, nat_lt, nat_le, ◌==◌, ◌&&◌, ◌||◌, not, Bool, true, if◌then◌else◌, slice_index_or}
use Rattle.read_ahead.specs.declared.backlog.Backlog.{Backlog}
use Rattle.ts_packet.specs.declared.lengths.TheConstants.{PACKET}
use Rattle.item_io.specs.declared.limits.TheConstants.{PIECE}
use Rattle.read_ahead.specs.declared.limits.TheConstants.{BLOCK, FILE_ROOM, ROOM}

-- so many things in parts of this size: how many parts they are, the last of which may be smaller
abbrev pub parts : ℕ → ℕ → ℕ
parts count size = (count + (size - 1)) / size

-- the backlog of the input of this number; of no input, one of which no more is given
abbrev pub backlog_of : List Backlog → ℕ → Backlog
backlog_of backlogs number = slice_index_or backlogs number (record { bytes = 0; blocks = 0; left = true })

-- in how many turns all inputs of which more is given have given what lies ready, in reads of 18,800: one at least
abbrev pub turns : List Backlog → ℕ
turns [] = 1
turns (backlog ∷ backlogs) = max (if backlog.left then 1 else parts backlog.bytes PIECE) (turns backlogs)

-- how many of its bytes a source gives in one of so many turns: whole packets, one at least
abbrev pub share : ℕ → ℕ → ℕ
share bytes turns = min (max 1 (parts (parts bytes turns) PACKET) * PACKET) (2 ^ 64 - 1)

-- a block has to wait: some bytes lie ready, and with it they would be more than the room, or there are too many blocks
abbrev pub is_full : ℕ → ℕ → ℕ → Backlog → Bool
is_full room blocks count backlog =
    (not backlog.left) && (not (backlog.bytes == 0)) && (nat_le blocks backlog.blocks || nat_lt room (backlog.bytes + count))

-- the room of each of so many inputs: their part of the MiB that all may take together, and a block at least; where no bound is asked
-- for, 8 MiB of a plain file, and 32 MiB of another input
abbrev pub room_for : Option ℕ → ℕ → Bool → ℕ
room_for None inputs is_file = if is_file then FILE_ROOM else ROOM
room_for (Some ahead) inputs is_file = max BLOCK (min (ahead * 2 ^ 20) (2 ^ 64 - 1) / max inputs 1)

-- a sixteenth of the room is free again, so that a thread may go on that waits for room
abbrev pub is_low : ℕ → Backlog → Bool
is_low room backlog = nat_le backlog.bytes (room - room / 16)

-- the backlog with a block more; where no more of the input is given, as it was
abbrev pub with_block : ℕ → Backlog → Backlog
with_block count backlog =
    if backlog.left then backlog
    else record backlog { bytes = min (backlog.bytes + count) (2 ^ 64 - 1); blocks = min (backlog.blocks + 1) (2 ^ 64 - 1) }
