-- What is kept of a rendition.
use Rattle.std.specs.Prelude.{ℕ, ◌<◌, ◌≤◌, length}
use Rattle.std.specs.List.{All}
use Rattle.std.specs.String.{string_bytes}
use Rattle.keeping.specs.declared.keeping.Keeping.TheInside.{Inside}
use Rattle.keeping.specs.Keepings.{KeepingValue}
use Rattle.retention.specs.Steps.{AreSteps, MayGo}

abbrev pub keeping_value : Inside → KeepingValue
keeping_value k = record {
  name = string_bytes k.name;
  base = k.base;
  gone = k.gone;
  kept = k.kept;
  before = k.before.items;
  older = k.older.items;
  swept = k.swept;
}

-- all that went may go, and older ones have lower numbers
pub record IsTied (k : Inside) : Type 0 where
  pub are : AreSteps k.kept.steps
  pub may_go : (n : ℕ) → n < k.gone → MayGo k.kept.least k.kept.steps n
  pub swept : k.swept ≤ length k.older.items
  pub earlier : All (λ n. n < k.base) k.older.items
