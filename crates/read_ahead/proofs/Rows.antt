-- When a block waits, row by row: for a room of 100 bytes and four blocks.
use Rattle.std.proofs.Common.{◌≡◌, ℕ, true, false, refl}
use Rattle.read_ahead.specs.Shares.{is_full}
use Rattle.read_ahead.specs.declared.backlog.Backlog.{Backlog}

-- an input of which so many bytes lie ready in so many blocks, and more is given
abbrev of : ℕ → ℕ → Backlog
of bytes blocks = record { bytes = bytes; blocks = blocks; left = false }

-- where no byte lies ready, a block of any size is put
first_block : is_full 100 4 5000 (of 0 0) ≡ false
first_block = refl

-- a block may fill the room to its last byte
last_byte : is_full 100 4 90 (of 10 1) ≡ false
last_byte = refl

-- one byte more waits
byte_too_many : is_full 100 4 91 (of 10 1) ≡ true
byte_too_many = refl

-- so does a fifth block
fifth_block : is_full 100 4 1 (of 10 4) ≡ true
fifth_block = refl

-- and any block where one bigger than the room lies ready
behind_a_big_block : is_full 100 4 1 (of 200 1) ≡ true
behind_a_big_block = refl
