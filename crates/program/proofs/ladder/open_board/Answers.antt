use Rattle.std.proofs.Common.{rules}
use Rattle.program.proofs.Watched.{looks-at, writer-for}
use Rattle.program.proofs.ladder.open_board.Goals as goal

pub returns-clause-watched : goal.returns-clause-watched
returns-clause-watched g c = λ to watching some runs.
    let w = c.begin-watch.ensures.begun to watching (search rules) runs in
    writer-for w c.in-Ok.ensures (search rules)

pub returns-clause-board : goal.returns-clause-board
returns-clause-board g c = λ watching runs. looks-at _ _ _ (c.begin-watch.ensures.viewer watching runs) c.in_ok-publisher.ensures.viewers
