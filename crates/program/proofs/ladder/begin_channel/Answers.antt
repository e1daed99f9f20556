use Rattle.std.proofs.Common.{inr}
use Rattle.std.proofs.lemmas.Result.{IfErr-weaker, IfOk-weaker}
use Rattle.program.proofs.ladder.begin_channel.Goals as goal

pub returns-clause-resumed : goal.returns-clause-resumed
returns-clause-resumed g c = λ _.
    IfOk-weaker c.go_on.result _ _
    (λ channel is. record {
      before = c.in_ok-folder.folder;
      after = c.go_on.new.folder;
      fresh = c.in_ok-folder.ensures.fresh;
      path = c.in_ok-folder.ensures.path;
      resumed = is;
    })
    c.go_on.ensures.ok

pub returns-clause-refused : goal.returns-clause-refused
returns-clause-refused g c =
    IfErr-weaker c.go_on.result _ _
    (λ fault is.
    inr
    (record {
      before = c.in_ok-folder.folder;
      after = c.go_on.new.folder;
      fresh = c.in_ok-folder.ensures.fresh;
      path = c.in_ok-folder.ensures.path;
      why = is.0;
      told = is.1;
      refused = is.2;
    }))
    c.go_on.ensures.err
