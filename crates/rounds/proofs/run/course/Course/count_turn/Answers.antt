use Rattle.std.proofs.Common.{arith}
use Rattle.std.proofs.lemmas.List.{get_or_read}
use Rattle.rounds.proofs.run.course.Course.count_turn.Goals as goal

pub overflow_add-count : goal.overflow_add-count
overflow_add-count g c = omega (arith, get_or_read c.args.self.now.turns.items c.args.r c.index.result.now c.requires.within c.index.ensures 0, c.requires.below, c.requires.most)
