use Rattle.std.proofs.Common.{◌≡◌, ◌∙◌, ap, length, map, subst, sym}
use Rattle.std.specs.String.{string_bytes}
use Rattle.std.proofs.lemmas.List.{length-map}
use Rattle.std.proofs.lemmas.Result.{IfOk-weaker}
use Rattle.read_ahead.proofs.Lists.{zip_through}
use Rattle.read_ahead.proofs.starting.open_paths.Goals as goal

pub returns-clause-limits : goal.returns-clause-limits
returns-clause-limits g c =
    let same : length c.in_ok-inputs_at.field-0.items ≡ length c.args.paths.now =
    sym (length-map _ _) ∙ (ap length c.in_ok-inputs_at.ensures.ok ∙ length-map _ _) in
    rw same at c.open_all.ensures.limits

pub returns-clause-inputs : goal.returns-clause-inputs
returns-clause-inputs g c =
    let same : length c.in_ok-inputs_at.field-0.items ≡ length c.args.paths.now =
    sym (length-map _ _) ∙ (ap length c.in_ok-inputs_at.ensures.ok ∙ length-map _ _) in
    rw same at c.open_all.ensures.inputs

pub returns-clause-none : goal.returns-clause-none
returns-clause-none g c =
    let same : length c.in_ok-inputs_at.field-0.items ≡ length c.args.paths.now =
    sym (length-map _ _) ∙ (ap length c.in_ok-inputs_at.ensures.ok ∙ length-map _ _) in
    rw same at c.open_all.ensures.none

pub returns-clause-files : goal.returns-clause-files
returns-clause-files g c =
    let plain = g.F.InputFiles.plain in
    let files = c.args.files in
    let paths = c.args.paths.now in
    let inputs = c.in_ok-inputs_at.field-0.items in
    IfOk-weaker c.open_all.result _ _
    (λ sources. zip_through _ _ _ paths inputs (map (λ source. source.is_file) sources.items)
    (λ path input is_file at p. subst (λ xs. plain files xs is_file) at.1 (subst (λ fs. plain fs (string_bytes input.path) is_file) at.0 p))
    c.in_ok-inputs_at.ensures.each)
    c.open_all.ensures.files
