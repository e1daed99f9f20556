use Rattle.std.proofs.Common.{arith, ◌∙◌, sym}
use Rattle.std.proofs.lemmas.Option.{MatchOption-at_some, MatchOption-at_none, none-some}
use Rattle.media_reading.proofs.Found.{read-nothing, read-refused, read-found}
use Rattle.media_reading.proofs.InLines.{key-unread, key-read}
use Rattle.std.specs.Prelude.{None}
use Rattle.media_reading.proofs.spelled.read_key.Goals as goal

pub returns-in_err-index : goal.returns-in_err-index
returns-in_err-index c =
    let read = key-unread c.args.line.now c.args.name.now c.args.salt c.args.number (MatchOption-at_none _ _ c.in_err-index.was c.key_index.ensures) in
    c.from_residual.ensures ∙ read-nothing _ c.args.line.now None 4096 (omega arith) read (λ n some. none-some n some)

pub returns-in_err-key : goal.returns-in_err-key
returns-in_err-key c =
    let index = MatchOption-at_some _ _ _ c.in_ok-index.was c.key_index.ensures in
    let read = key-read c.args.line.now c.args.name.now c.in_ok-index.index.now c.args.salt c.args.number c.read_between.result index c.read_between.ensures.found c.read_between.ensures.only in
    c.from_residual-in_err-key.ensures ∙ read-nothing _ c.args.line.now c.read_between.result 4096 (omega arith) read (λ n some. none-some n (sym c.in_err-key.was ∙ some))

pub returns-then-key-ge-MOST_KEYS : goal.returns-then-key-ge-MOST_KEYS
returns-then-key-ge-MOST_KEYS c =
    let index = MatchOption-at_some _ _ _ c.in_ok-index.was c.key_index.ensures in
    let read = key-read c.args.line.now c.args.name.now c.in_ok-index.index.now c.args.salt c.args.number c.read_between.result index c.read_between.ensures.found c.read_between.ensures.only in
    read-refused _ c.args.line.now c.read_between.result 4096 c.in_ok-key.key (omega arith) read c.in_ok-key.was c.if-key-ge-MOST_KEYS.true

pub returns : goal.returns
returns c =
    let index = MatchOption-at_some _ _ _ c.in_ok-index.was c.key_index.ensures in
    let read = key-read c.args.line.now c.args.name.now c.in_ok-index.index.now c.args.salt c.args.number c.read_between.result index c.read_between.ensures.found c.read_between.ensures.only in
    read-found _ c.args.line.now c.read_between.result 4096 c.in_ok-key.key (omega arith) read c.in_ok-key.was (MatchOption-at_some _ _ _ c.in_ok-key.was read.found) c.if-key-ge-MOST_KEYS.false
