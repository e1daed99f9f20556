use Rattle.std.proofs.Common.{◌≡◌, ◌∙◌, [], Some, None, refl, ap}
use Rattle.master_playlist.specs.Faults.{fault_of, has_same_names}
use Rattle.master_playlist.proofs.text.master_text.Goals as goal

-- no variants have no fault
no-fault : fault_of [] ≡ None
unfolding fault_of has_same_names
no-fault = refl

pub returns-in-Some-clause-none : goal.returns-in-Some-clause-none
returns-in-Some-clause-none c = λ none.
    let gone : Some c.in-Some.fault ≡ None = c.in-Some.ensures ∙ ap fault_of none ∙ no-fault in
    cc
