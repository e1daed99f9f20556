use denote.Bor.{Bor}
use Rattle.std.proofs.Common.{◌≡◌, ◌⊎◌, ℕ, ◌<◌, List, [], length, map, sym, ◌∙◌, ap, arith, inl, inr}
use Rattle.std.proofs.lemmas.Bool.{false≢true}
use Rattle.std.proofs.lemmas.List.{length-map}
use Rattle.std.proofs.lemmas.Result.{err_from_is_err_and}
use Rattle.psi_tables.specs.Sections.{carrier, behind_pointer}
use Rattle.psi_tables.proofs.Bringing.{begins-behind, found-stands, err-some}
use Rattle.psi_tables.proofs.gather.gather.Goals as goal
use Rattle.psi_tables.proofs.gather.gather.Goals.{then-gives_up, else-gives_up}

pub returns-then-not-starts-clause-idle : goal.returns-then-not-starts-clause-idle
returns-then-not-starts-clause-idle c = err-some c.bring.result _ _ c.bring.ensures.none

pub returns-in_err-front-clause-idle : goal.returns-in_err-front-clause-idle
returns-in_err-front-clause-idle c =
    let told = err_from_is_err_and c.from_residual.result c.from_residual.ensures.1 in
    rw told.1 (inl (λ none. false≢true (c.in_err-front.ensures.none none)))

pub returns-in_err-back-clause-idle : goal.returns-in_err-back-clause-idle
returns-in_err-back-clause-idle c =
    let told = err_from_is_err_and c.from_residual-in_err-back.result c.from_residual-in_err-back.ensures.1 in
    let back : (c.if-gives_up.back.now ≡ []) ⊎ (c.if-gives_up.back.now ≡ behind_pointer (carrier c.args.packet.now)) = elim c.if-gives_up.branch [
      | then-gives_up w ↦ inl (ap (λ (b : Bor (List ℕ)). b.now) w.back-is)
      | else-gives_up w ↦ inr (ap (λ (b : Bor (List ℕ)). b.now) w.back-is ∙ c.split_at_pointer.ensures.behind)
    ] in
    rw told.1 (inr (begins-behind c.args.packet.now _ (sym c.starts.ensures ∙ c.if-not-starts.false) back c.in_err-back.ensures.some))

pub returns-in_err-append-clause-idle : goal.returns-in_err-append-clause-idle
returns-in_err-append-clause-idle c =
    let told = err_from_is_err_and c.from_residual-in_err-append.result c.from_residual-in_err-append.ensures.1 in
    let back : (c.if-gives_up.back.now ≡ []) ⊎ (c.if-gives_up.back.now ≡ behind_pointer (carrier c.args.packet.now)) = elim c.if-gives_up.branch [
      | then-gives_up w ↦ inl (ap (λ (b : Bor (List ℕ)). b.now) w.back-is)
      | else-gives_up w ↦ inr (ap (λ (b : Bor (List ℕ)). b.now) w.back-is ∙ c.split_at_pointer.ensures.behind)
    ] in
    let found = c.in_ok-back.back.found in
    let some : 0 < length (map (λ section. section.items) found.items)
    = omega (arith, c.in_err-append.ensures.full, c.in_ok-front.front.found.ok.1, found.ok.0, length-map found.items (λ section. section.items)) in
    rw told.1 (inr (begins-behind c.args.packet.now _ (sym c.starts.ensures ∙ c.if-not-starts.false) back
    (found-stands c.if-gives_up.back.now (map (λ section. section.items) found.items) c.in_ok-back.ensures.found some)))
