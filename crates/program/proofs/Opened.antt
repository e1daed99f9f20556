-- What a view shows of inputs that were opened together.
use Rattle.std.proofs.Common.{◌≡◌, ◌∙◌, sym, ap, ℕ, List, Option, Some, None}
use Rattle.std.specs.Prelude.{All, Any, IfSome}
use Rattle.read_ahead.specs.Sources.{Seen, inputs_of}
use Rattle.read_ahead.specs.declared.view.InputsView.{InputsView}

-- as many as were opened with one of them
pub shows-all : (sources : List Seen) (n : ℕ) (view : Option InputsView) → All (λ (s : Seen). s.inputs ≡ n) sources →
    IfSome view (λ v. Any (λ (s : Seen). inputs_of v ≡ s.inputs) sources) → IfSome view (λ v. inputs_of v ≡ n)
shows-all sources n None each shown = tt
shows-all sources n (Some v) each (k, s, inside, at, is) = is ∙ sym (ap (λ (x : Seen). x.inputs) at) ∙ each k s inside
