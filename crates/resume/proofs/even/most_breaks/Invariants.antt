use Rattle.std.proofs.Common.{◌≡◌, ◌<◌, ℕ, Option, Some}
use Rattle.std.specs.Prelude.{slice_get}
use Rattle.resume.specs.Restoring.{RestoredValue}
use Rattle.resume.specs.Evening.{GoTogether}
use Rattle.resume.proofs.even.most_breaks.Given as goal

abbrev pub invariant-loop-r : goal.invariant-loop-r
invariant-loop-r l = (i j : ℕ) (a b : Option RestoredValue) → i < l.r → j < l.r → slice_get l.found i ≡ Some a → slice_get l.found j ≡ Some b → GoTogether l.kind a b

abbrev pub invariant-loop-i : goal.invariant-loop-i
invariant-loop-i l = (i : ℕ) (a b : Option RestoredValue) → i < l.i → slice_get l.found i ≡ Some a → slice_get l.found l.r ≡ Some b → GoTogether l.kind a b
