use Rattle.std.proofs.Common.{refl, arith, ◌<◌, ap, sym, ◌∙◌, ◌++◌}
use Rattle.std.proofs.lemmas.Bool.Decides.{Decides-eqb}
use Rattle.std.proofs.lemmas.List.Elements.{All-from_get_or}
use Rattle.std.proofs.lemmas.Option.{MatchOption-at_some, MatchOption-at_none}
use Rattle.std.proofs.lemmas.Slice.Eq.{strip_prefix_is}
use Rattle.percent_encoding.specs.Iter.{encoded_text}
use Rattle.playlist_text.proofs.Escapes.{percent_encode-escaped}
use Rattle.media_reading.proofs.Fronts.{front-init, front-more, front-none}
use Rattle.media_reading.proofs.spelled.strip_name.Goals as goal

pub loop-piece-init : goal.loop-piece-init
loop-piece-init c =
    let small = All-from_get_or (λ b. b < 256) c.args.name.now 0 (λ i within. omega (arith, c.type_inv.name i)) in
    front-init _ _ _ _ refl (ap encoded_text c.into_iter-piece-iterator.ensures.into_iter_gives ∙ c.utf8_percent_encode-piece-items.ensures.text ∙ percent_encode-escaped _ small)

pub returns-in_err-rest : goal.returns-in_err-rest
returns-in_err-rest c =
    let none = MatchOption-at_none _ _ c.in_err-rest.was (strip_prefix_is Decides-eqb c.loop-piece.rest.now c.as_bytes.result.now c.strip_prefix.result c.strip_prefix.ensures.cases) in
    rw c.from_residual.ensures (front-none _ _ _ _ _ _ c.loop-piece.invariant c.in-Some.ensures.steps (λ x same. none x (same ∙ ap (λ l. l ++ x) (sym c.as_bytes.ensures.value))))

pub loop-piece-preserved : goal.loop-piece-preserved
loop-piece-preserved c =
    let some = MatchOption-at_some _ _ _ c.in_ok-rest.was (strip_prefix_is Decides-eqb c.loop-piece.rest.now c.as_bytes.result.now c.strip_prefix.result c.strip_prefix.ensures.cases) in
    front-more _ _ _ _ _ _ _ c.loop-piece.invariant c.in-Some.ensures.steps (some ∙ ap (λ l. l ++ c.in_ok-rest.rest.now) c.as_bytes.ensures.value)
