use Rattle.std.proofs.Common.{rules, ◌≡◌, ◌∙◌, sym, subst}
use Rattle.std.proofs.lemmas.Result.{IfErr-weaker}
use Rattle.media_reading.specs.MediaTexts.{MayWantMemory, WantsMemory}
use Rattle.channel_folder.proofs.Wanting.{listing-wants, listing-wants-so}
use Rattle.channel_folder.proofs.reading_back.restored_from.Goals as goal

pub returns-clause-scarce : goal.returns-clause-scarce
returns-clause-scarce g c =
    let text : c.in-Ok.media.now ≡ c.args.media.now = search rules in
    let read = c.in_ok-listing.ensures.ok in
    IfErr-weaker c.go_on_from.result _ _ (λ _ _ _. subst MayWantMemory (sym read.1 ∙ text) (listing-wants _ read.0)) c.go_on_from.ensures.scarce

pub returns-clause-wants : goal.returns-clause-wants
returns-clause-wants g c =
    let text : c.in-Ok.media.now ≡ c.args.media.now = search rules in
    let read = c.in_ok-listing.ensures.ok in
    IfErr-weaker c.go_on_from.result _ _ (λ _ _ _. subst WantsMemory (sym read.1 ∙ text) (listing-wants-so _ read.0)) c.go_on_from.ensures.scarce
