use Rattle.std.proofs.Common.{rules, ◌≡◌, ◌+◌, ◌<◌, [], ◌∷◌, ◌++◌, ◌∙◌, refl, subst}
use Rattle.folder.specs.Moves.{Remove}
use Rattle.item_io.specs.FileNames.{segment_file_name}
use Rattle.keeping.proofs.OneByOne.{none-went, one-went, same-but}
use Rattle.keeping.proofs.removing.take_places.Goals as goal

pub loop-gone-init : goal.loop-gone-init
loop-gone-init g c = (none-went c.args.name.now c.args.base c.args.gone.now c.args.until (g.F.Folder.made c.args.files.now.folder) c.requires, refl, refl)

pub loop-gone-preserved : goal.loop-gone-preserved
loop-gone-preserved g c =
    let inv = c.loop-gone.invariant in
    let gone = c.loop-gone.gone in
    let name = c.args.name.now in
    let files = c.take_away.new.files in
    let below : gone < c.args.until = search rules in
    let number : c.in-Some.number ≡ c.args.base + gone = search rules in
    let made : g.F.Folder.made files.folder ≡ g.F.Folder.made c.loop-gone.files.folder ++ Remove (segment_file_name name (c.args.base + gone)) ∷ [] =
    subst (λ n. g.F.Folder.made files.folder ≡ g.F.Folder.made c.loop-gone.files.folder ++ Remove (segment_file_name name n) ∷ []) number c.in_ok-take_away.ensures.made in (
      one-went name c.args.base c.args.gone.now gone c.args.until (g.F.Folder.made c.args.files.now.folder) (g.F.Folder.made c.loop-gone.files.folder) (g.F.Folder.made files.folder) inv.0 below made,
      c.in_ok-take_away.ensures.others ∙ inv.1,
      same-but c.args.files.now c.loop-gone.files files inv.2 c.in_ok-take_away.ensures.same,
    )
