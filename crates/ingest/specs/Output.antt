-- The packets of a stream that go into segments.
use Rattle.std.specs.Prelude.{◌≡◌, ℕ, List, [], ◌∷◌, ◌++◌, is_none, if◌then◌else◌}
use Rattle.std.specs.List.{flat_map}
use Rattle.cutter.specs.declared.settings.CutSettings.{CutSettings}
use Rattle.cutter.specs.Plans.{SegmentPlan}
use Rattle.cutter.specs.Segments.{body_of}
use Rattle.cutter.specs.Dividing.{Sight, sights, marks_of}

-- the packets from the first counted point on, at which the first segment begins
unfoldable pub from_first : List Sight → List Sight
from_first [] = []
from_first (x ∷ xs) = if is_none x.point then from_first xs else x ∷ xs

-- the accepted packets of a stream from the first cut on, joined
abbrev pub output : CutSettings → List (List ℕ) → List ℕ
output s ps = body_of (marks_of (from_first (sights s ps)))

-- the bodies of some plans, joined
abbrev pub bodies : List SegmentPlan → List ℕ
bodies plans = flat_map (λ plan. plan.body) plans

-- these bytes begin with the bodies of some plans
pub record BeginWith (bytes : List ℕ) (given : List SegmentPlan) : Type 0 where
  pub rest : List ℕ
  pub split : bytes ≡ bodies given ++ rest
