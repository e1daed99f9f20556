use Rattle.std.proofs.Common.{◌≡◌, ◌%◌, ◌++◌, length, sym, ap, ◌∙◌, append-nil, rules}
use Rattle.std.specs.List.{concat}
use Rattle.aes_cbc.specs.Opening.{last_block}
use Rattle.aes_cbc.proofs.ChainSplit.{piece_chained, piece_ends, none_chained}
use Rattle.aes_cbc.proofs.behind.append_pieces.Goals as goal

pub piece-preserved : goal.piece-preserved
piece-preserved c =
    let inv = c.piece.invariant in
    let piece = c.split_at.result.0.now in
    let next = c.append_encrypted-last in
    let whole : length piece % 16 ≡ 0 = search rules in
    record {
      items =
          piece_chained c.args.key.now c.piece.last c.piece.text.items piece c.split_at.result.1.now c.piece.rest.now
          next.new.text.items next.result whole c.split_at.ensures.by_index.0 next.ensures.items next.ensures.last
          ∙ inv.items;
      ends =
          piece_ends c.args.key.now c.piece.last piece c.split_at.result.1.now c.piece.rest.now
          next.result whole c.split_at.ensures.by_index.0 next.ensures.last
          ∙ inv.ends;
      whole = search rules;
      len = search rules;
      room = search rules;
    }

pub returns-clause-items : goal.returns-clause-items
returns-clause-items c =
    let none : length c.piece.rest.now ≡ 0 = search rules in
    sym (ap (λ bs. c.piece.text.items ++ concat bs) (none_chained c.args.key.now c.piece.last c.piece.rest.now none) ∙ append-nil c.piece.text.items)
    ∙ c.piece.invariant.items

pub returns-clause-last : goal.returns-clause-last
returns-clause-last c =
    let none : length c.piece.rest.now ≡ 0 = search rules in
    sym (ap (last_block c.piece.last) (none_chained c.args.key.now c.piece.last c.piece.rest.now none))
    ∙ c.piece.invariant.ends
