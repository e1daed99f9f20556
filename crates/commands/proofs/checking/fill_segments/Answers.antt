use Rattle.std.proofs.Common.{rules, ◌≡◌, ◌∙◌, [], Err, ap, arith, get_or, map, subst, sym, take}
use Rattle.std.proofs.lemmas.List.{get_or-map, length-map}
use Rattle.std.specs.Path.{path_buf_bytes}
use Rattle.commands.specs.declared.files.FileFault.TheVariants.{NoMemory, Unread}
use Rattle.commands.proofs.SegmentFiles.{refused-at, segment-given}
use Rattle.commands.proofs.checking.fill_segments.Goals as goal

pub loop-place-preserved : goal.loop-place-preserved
loop-place-preserved g c =
    let gives = g.F.FileReader.gives c.args.files.now in
    let paths = map path_buf_bytes c.args.paths.now in
    let i = c.loop-place.place in
    let path : c.as_str.result.now ≡ get_or paths i []
    = c.as_str.ensures ∙ ap path_buf_bytes c.index-paths-place.is ∙ sym (get_or-map path_buf_bytes c.args.paths.now i _ [] c.loop-place-test.true) in
    segment-given gives paths c.loop-place.segments i c.in_ok-segments.field-0 (omega (arith, c.loop-place-test.true, length-map c.args.paths.now path_buf_bytes))
    (omega (arith, c.loop-place-test.true, c.requires.places, c.loop-place.auto.segments)) c.loop-place.invariant
    (subst (λ p. gives p c.in_ok-segments.field-0.items) path c.in_ok-segments.ensures.ok)

pub returns-in_err-segments-clause-unread : goal.returns-in_err-segments-clause-unread
returns-in_err-segments-clause-unread g c = λ told.
    let paths = map path_buf_bytes c.args.paths.now in
    let i = c.loop-place.place in
    let path : c.as_str.result.now ≡ get_or paths i []
    = c.as_str.ensures ∙ ap path_buf_bytes c.index-paths-place.is ∙ sym (get_or-map path_buf_bytes c.args.paths.now i _ [] c.loop-place-test.true) in
    let is : c.from_residual.result ≡ Err c.in_err-segments.field-0.0 = search rules in
    let same : c.in_err-segments.field-0.0 ≡ Unread = cc (told, is) in
    refused-at (g.F.FileReader.gives c.args.files.now) (g.F.FileReader.refuses c.args.files.now) paths (map (λ s. s.items) (take i c.loop-place.segments)) i c.as_str.result.now
    (omega (arith, c.loop-place-test.true, length-map c.args.paths.now path_buf_bytes)) c.loop-place.invariant path
    (c.read.ensures.unread (c.in_err-segments.was ∙ ap Err same))

pub returns-in_err-segments-clause-no_memory : goal.returns-in_err-segments-clause-no_memory
returns-in_err-segments-clause-no_memory g c = λ told.
    let paths = map path_buf_bytes c.args.paths.now in
    let i = c.loop-place.place in
    let path : c.as_str.result.now ≡ get_or paths i []
    = c.as_str.ensures ∙ ap path_buf_bytes c.index-paths-place.is ∙ sym (get_or-map path_buf_bytes c.args.paths.now i _ [] c.loop-place-test.true) in
    let is : c.from_residual.result ≡ Err c.in_err-segments.field-0.0 = search rules in
    let same : c.in_err-segments.field-0.0 ≡ NoMemory = cc (told, is) in
    refused-at (g.F.FileReader.gives c.args.files.now) (g.F.FileReader.wants c.args.files.now) paths (map (λ s. s.items) (take i c.loop-place.segments)) i c.as_str.result.now
    (omega (arith, c.loop-place-test.true, length-map c.args.paths.now path_buf_bytes)) c.loop-place.invariant path
    (c.read.ensures.no_memory (c.in_err-segments.was ∙ ap Err same))
