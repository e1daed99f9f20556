use Rattle.resume.proofs.Listing.{restored-goes_on}
use Rattle.resume.proofs.laws.restored_playlists_go_on.Goals as goal

pub returns : goal.returns
returns c = restored-goes_on
