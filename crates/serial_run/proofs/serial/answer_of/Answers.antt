use Rattle.std.proofs.Common.{arith}
use Rattle.serial_run.proofs.serial.answer_of.Goals as goal

pub report_of-requires-clause-few : goal.report_of-requires-clause-few
report_of-requires-clause-few c = omega (arith, c.requires.few.1.within.renditions.1, c.requires.few.2)
