-- What a command read and wrote.
use Rattle.std.specs.Prelude.{◌≡◌, ◌<◌, ◌⊎◌, ℕ, List, Option, Ok, is_err, true}
use Rattle.std.specs.Io.KnownBytes.{Consumes, IsAtEnd, Appends}
use Rattle.ts_packet.specs.Packets.{packets, joined}
use Rattle.hex.specs.Hex.{decode_of}
use Rattle.aes_cbc.specs.Chain.{sealed_text}
use Rattle.aes_cbc.specs.Opening.{Seals, IsInBlocks, IsNotBlocks}
use Rattle.item_io.specs.Writing.{WritesBeginning, WritesFewer, hex_line}
use Rattle.commands.specs.Hex.{without_end}

-- The writer got fewer bytes than these, or it wasn't flushed behind them.
abbrev pub IsUnwritten : Type 0 → Option (List ℕ) → Option (List ℕ) → List ℕ → Type 0
IsUnwritten Unflushed held held_then text = WritesFewer held held_then text ⊎ Unflushed

-- A reader that had these bytes left gave `bytes` and came to its end.
pub record ReadsAll (left left_then : Option (List ℕ)) (bytes : List ℕ) : Type 0 where
  pub consumed : Consumes left left_then bytes
  pub at_end : IsAtEnd left_then

-- A read gave a byte, or the reader came to its end.
abbrev pub HasBegun : ℕ → ℕ → Option (List ℕ) → Option (List ℕ) → Type 0
HasBegun reads reads_then left left_then = (reads < reads_then) ⊎ ((bytes : List ℕ) × ReadsAll left left_then bytes)

-- All that the reader gave was sealed, to this.
pub record ReadsSealed (key vector : List ℕ) (left left_then : Option (List ℕ)) (sealed : List ℕ) : Type 0 where
  pub bytes : List ℕ
  pub read : ReadsAll left left_then bytes
  pub is : sealed ≡ sealed_text key vector (joined (packets bytes))

-- the line that `seal` writes of a stream
abbrev pub sealed_line : List ℕ → List ℕ → List ℕ → List ℕ
sealed_line key vector bytes = hex_line (sealed_text key vector (joined (packets bytes)))

-- All that the reader gave was sealed, and the writer got that line.
pub record WritesSealed (key vector : List ℕ) (left left_then held held_then : Option (List ℕ)) : Type 0 where
  pub bytes : List ℕ
  pub read : ReadsAll left left_then bytes
  pub written : Appends held held_then (sealed_line key vector bytes)

-- All that the reader gave was sealed, and the writer got a prefix of that line.
pub record BeginsSealed (key vector : List ℕ) (left left_then held held_then : Option (List ℕ)) : Type 0 where
  pub bytes : List ℕ
  pub read : ReadsAll left left_then bytes
  pub written : WritesBeginning held held_then (sealed_line key vector bytes)

-- All that the reader gave was sealed, and that line wasn't written.
pub record LeavesSealed (Unflushed : Type 0) (key vector : List ℕ) (left left_then held held_then : Option (List ℕ)) : Type 0 where
  pub bytes : List ℕ
  pub read : ReadsAll left left_then bytes
  pub unwritten : IsUnwritten Unflushed held held_then (sealed_line key vector bytes)

-- The reader gave a line of hex digits, of either case, that stand for `sealed`.
pub record ReadsDigits (left left_then : Option (List ℕ)) (sealed : List ℕ) : Type 0 where
  pub bytes : List ℕ
  pub read : ReadsAll left left_then bytes
  pub digits : decode_of (without_end bytes) ≡ Ok sealed

-- The reader gave something else.
pub record ReadsOther (left left_then : Option (List ℕ)) : Type 0 where
  pub bytes : List ℕ
  pub read : ReadsAll left left_then bytes
  pub other : is_err (decode_of (without_end bytes)) ≡ true

-- The reader gave a sealed text, and this text has those bytes.
pub record OpensInput (key vector : List ℕ) (left left_then : Option (List ℕ)) (plain : List ℕ) : Type 0 where
  pub sealed : List ℕ
  pub read : ReadsDigits left left_then sealed
  pub seals : Seals key vector plain sealed

-- The reader gave a sealed text, and the writer got the line of the text that has those bytes.
pub record WritesOpened (key vector : List ℕ) (left left_then held held_then : Option (List ℕ)) : Type 0 where
  pub sealed : List ℕ
  pub read : ReadsDigits left left_then sealed
  pub plain : List ℕ
  pub seals : Seals key vector plain sealed
  pub written : Appends held held_then (hex_line plain)

-- The reader gave a sealed text, and the writer got a prefix of that line.
pub record BeginsOpened (key vector : List ℕ) (left left_then held held_then : Option (List ℕ)) : Type 0 where
  pub sealed : List ℕ
  pub read : ReadsDigits left left_then sealed
  pub plain : List ℕ
  pub seals : Seals key vector plain sealed
  pub written : WritesBeginning held held_then (hex_line plain)

-- The reader gave a sealed text, and that line wasn't written.
pub record LeavesOpened (Unflushed : Type 0) (key vector : List ℕ) (left left_then held held_then : Option (List ℕ)) : Type 0 where
  pub sealed : List ℕ
  pub read : ReadsDigits left left_then sealed
  pub plain : List ℕ
  pub seals : Seals key vector plain sealed
  pub unwritten : IsUnwritten Unflushed held held_then (hex_line plain)

-- The reader gave digits that stand for no whole blocks.
pub record ReadsNoBlocks (left left_then : Option (List ℕ)) : Type 0 where
  pub sealed : List ℕ
  pub read : ReadsDigits left left_then sealed
  pub not_blocks : IsNotBlocks sealed

-- The reader gave digits that stand for whole blocks which no text has under the key and the vector.
pub record ReadsNoSealed (key vector : List ℕ) (left left_then : Option (List ℕ)) : Type 0 where
  pub sealed : List ℕ
  pub read : ReadsDigits left left_then sealed
  pub in_blocks : IsInBlocks sealed
  pub of_no_text : (plain : List ℕ) → ¬ Seals key vector plain sealed
