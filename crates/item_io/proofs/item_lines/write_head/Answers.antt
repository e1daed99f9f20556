use Rattle.item_io.proofs.Written.{OnErr-fact}
use Rattle.item_io.specs.Items.{item_value}
use Rattle.item_io.proofs.HeadLines.{head-unwritten}
use Rattle.item_io.proofs.item_lines.write_head.Goals as goal

pub returns-in_err-push_head-clause-left : goal.returns-in_err-push_head-clause-left
returns-in_err-push_head-clause-left g c = OnErr-fact _ (head-unwritten _ (item_value c.args.item.now))
