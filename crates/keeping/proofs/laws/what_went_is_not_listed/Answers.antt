use Rattle.keeping.proofs.Between.{between}
use Rattle.keeping.proofs.laws.what_went_is_not_listed.Goals as goal

pub returns : goal.returns
returns c = between
