use Rattle.ladder_items.proofs.playlists.Playlists.behind.Goals as goal

pub push_rows-requires-clause-follow : goal.push_rows-requires-clause-follow
push_rows-requires-clause-follow c = rw c.behind.ensures (rw (← c.playlists.view_is) at c.requires.follow)
