use Rattle.std.proofs.Common.{◌-◌, ◌+◌, length, take, ap, sym, ◌∙◌}
use Rattle.folder.specs.MemoryMoves.{memory_moves}
use Rattle.folder.specs.MemoryFinds.{said_of}
use Rattle.folder.specs.Moves.{no_files, standing}
use Rattle.folder.proofs.Finding.{step-back}
use Rattle.folder.proofs.memory_find.find_in.Goals as goal

pub returns-in-Is : goal.returns-in-Is
returns-in-Is c =
    let before = standing no_files (memory_moves (take (length c.args.moves.now - (c.loop-done.done + 1)) c.args.moves.now)) in
    sym (step-back c.args.moves.now c.loop-done.done c.index-moves-moves.result c.args.name.now c.loop-done.wanted.now c.loop-done-test.true c.index-moves-moves.is c.loop-done.invariant
    ∙ c.says.ensures before ∙ ap (said_of before) c.in-Is.is)

pub returns-in-Gone : goal.returns-in-Gone
returns-in-Gone c =
    let before = standing no_files (memory_moves (take (length c.args.moves.now - (c.loop-done.done + 1)) c.args.moves.now)) in
    sym (step-back c.args.moves.now c.loop-done.done c.index-moves-moves.result c.args.name.now c.loop-done.wanted.now c.loop-done-test.true c.index-moves-moves.is c.loop-done.invariant
    ∙ c.says.ensures before ∙ ap (said_of before) c.in-Gone.is)

pub loop-done-preserved : goal.loop-done-preserved
loop-done-preserved c =
    let before = standing no_files (memory_moves (take (length c.args.moves.now - (c.loop-done.done + 1)) c.args.moves.now)) in
    step-back c.args.moves.now c.loop-done.done c.index-moves-moves.result c.args.name.now c.loop-done.wanted.now c.loop-done-test.true c.index-moves-moves.is c.loop-done.invariant
    ∙ c.says.ensures before ∙ ap (said_of before) c.in-Was.is
