use Rattle.std.proofs.Common.{◌∙◌, refl}
use Rattle.std.proofs.lemmas.Option.{slice_get_read}
use Rattle.rounds.proofs.Closing.{on-turned}
use Rattle.rounds.proofs.run.course.Course.swap_one.Goals as goal

pub returns-in-Ok-clause-ok : goal.returns-in-Ok-clause-ok
returns-in-Ok-clause-ok g c ladder start shows waiting still none full others on =
    on-turned _ _ _ _ _ start _ shows c.args.r _ waiting still c.index_mut.result.now _
    (slice_get_read c.args.self.now.lanes.items _ c.args.r c.index_mut.result.now refl c.requires.within c.index_mut.ensures.value)
    refl refl refl c.in-Ok.ensures.turned none (full ∙ c.in-Ok.ensures.full) others on
