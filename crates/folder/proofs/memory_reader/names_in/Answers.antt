use Rattle.std.proofs.Common.{◌≡◌, sym, ap, ◌∙◌, ◌+◌, ◌++◌, ◌∷◌, [], take, map, List, subst, arith}
use Rattle.std.specs.String.{string_bytes}
use Rattle.std.proofs.lemmas.Result.{err_from_is_err_and}
use Rattle.std.proofs.lemmas.List.{take_more, take_all}
use Rattle.folder.specs.MemoryFolders.{moves_in_memory}
use Rattle.folder.specs.MemoryMoves.{memory_moves}
use Rattle.folder.specs.MemoryNames.{AreNames}
use Rattle.folder.specs.Moves.{Files, Move, no_files, standing}
use Rattle.folder.specs.declared.memory_move.MemoryMove.{MemoryMove}
use Rattle.folder.proofs.Naming.{names_after, after-more, after-are, new-file}
use Rattle.folder.proofs.memory_reader.names_in.Goals as goal

pub loop-made-preserved : goal.loop-made-preserved
loop-made-preserved c =
    let moves = c.moves-moves.result.now in
    let i = c.loop-made.made-index in
    let m = c.made-item.result in
    let split : take (i + 1) moves ≡ take i moves ++ m ∷ [] =
    take_more moves i m c.loop-made-test.true ∙ ap (λ (x : MemoryMove). take i moves ++ x ∷ []) (sym c.made-item.is) in
    after-more (standing no_files (moves_in_memory c.args.folder.now)) moves i m _ (map string_bytes c.loop-made.names.items) (map string_bytes c.add_name.new.names.items)
    c.loop-made.invariant c.named_by.ensures split c.in_ok-add_name.ensures.names

pub returns-clause-names : goal.returns-clause-names
returns-clause-names c =
    let moves = c.moves-moves.result.now in
    let files = standing no_files (moves_in_memory c.args.folder.now) in
    let same : standing no_files (memory_moves moves) ≡ files = ap (λ (l : List Move). standing no_files l) c.moves-moves.ensures in
    let all : take c.loop-made.made-index moves ≡ moves = take_all c.loop-made.made-index moves (omega (arith, c.loop-made-test.false)) in
    let found : names_after files [] moves ≡ map string_bytes c.loop-made.names.items = sym (c.loop-made.invariant ∙ ap (names_after files []) all) in
    subst (AreNames files) found (subst (λ (f : Files). AreNames f (names_after f [] moves)) same (after-are moves))

pub returns-in_err-add_name-clause-scarce : goal.returns-in_err-add_name-clause-scarce
returns-in_err-add_name-clause-scarce c =
    let told = err_from_is_err_and c.from_residual.result c.from_residual.ensures.1 in
    rw told.1 (new-file _ _ _ c.in_err-add_name.ensures.scarce)
