use Rattle.std.proofs.Common.{◌≡◌, take, length, get_or, arith, rules}
use Rattle.std.proofs.lemmas.List.{take_more, take_all}
use Rattle.psi_tables.proofs.Messages.{next_byte, at_start, is_crc}
use Rattle.psi_tables.proofs.crc.crc_32.Goals as goal

pub loop-byte-init : goal.loop-byte-init
loop-byte-init c = at_start

pub loop-byte-preserved : goal.loop-byte-preserved
loop-byte-preserved c =
    let i = c.loop-byte.byte-index in
    let bytes = c.args.bytes.now in
    rw (take_more bytes i 0 c.loop-byte-test.true, c.remainder_of.ensures)
    (next_byte i (take i bytes) (get_or bytes i 0) c.loop-byte.register (search rules) c.loop-byte.invariant)

pub returns : goal.returns
returns c =
    let all : take c.loop-byte.byte-index c.args.bytes.now ≡ c.args.bytes.now = take_all _ _ c.loop-byte-test.false in
    let n : c.loop-byte.byte-index ≡ length c.args.bytes.now = omega arith in
    is_crc c.args.bytes.now c.loop-byte.register (rw n at (rw all at c.loop-byte.invariant))
