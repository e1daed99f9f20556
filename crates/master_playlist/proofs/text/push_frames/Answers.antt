use Rattle.std.proofs.Common.{List, ℕ, ◌++◌, ap, sym, ◌∙◌}
use Rattle.std.specs.String.{string_bytes}
use Rattle.std.proofs.lemmas.List.{append-nil, at_drop_all}
use Rattle.master_playlist.proofs.Texts.{frames_text, frames_text-is}
use Rattle.master_playlist.proofs.text.push_frames.Goals as goal

pub returns-clause-ok : goal.returns-clause-ok
returns-clause-ok c =
    let none_left = at_drop_all frames_text c.args.variants.now c.loop-variant.variant-index c.loop-variant-test.false in
    sym (append-nil (string_bytes c.loop-variant.out))
    ∙ ap (λ (t : List ℕ). string_bytes c.loop-variant.out ++ t) (sym none_left)
    ∙ c.loop-variant.invariant.written
    ∙ ap (λ (t : List ℕ). string_bytes c.args.out.now ++ t) (sym (frames_text-is c.args.variants.now))
