use Rattle.std.proofs.Common.{length, arith, sym, ◌∙◌}
use Rattle.std.proofs.lemmas.Bool.{eqb-true, eqb-false}
use Rattle.master_playlist.proofs.Texts.{four_texts, master_text-some, master_text-none}
use Rattle.master_playlist.proofs.text.text_of_lines.Goals as goal

pub returns-then-is_empty-clause-text : goal.returns-then-is_empty-clause-text
returns-then-is_empty-clause-text c =
    c.new-text.ensures.bytes ∙ master_text-none c.args.variants.now (eqb-true (length c.args.variants.now) 0 (sym c.is_empty.ensures ∙ c.if-is_empty.true))

pub returns-clause-text : goal.returns-clause-text
returns-clause-text c =
    let some = eqb-false (length c.args.variants.now) 0 (sym c.is_empty.ensures ∙ c.if-is_empty.false) in
    four_texts _ _ _ _ _ _ _ _ _ c.new-text.ensures.bytes c.in_ok-push_line.ensures.ok c.in_ok-push_line-2.ensures.ok c.in_ok-push_streams.ensures.ok c.in_ok-push_frames.ensures.ok
    ∙ sym (master_text-some c.args.variants.now (omega (arith, some)))
