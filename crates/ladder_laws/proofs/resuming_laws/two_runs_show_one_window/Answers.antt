use Rattle.ladder_laws.proofs.Resuming.{both-media, both-frames, both-seen, each-of-both}
use Rattle.ladder_laws.proofs.resuming_laws.two_runs_show_one_window.Goals as goal

pub returns-clause-media : goal.returns-clause-media
returns-clause-media c = both-media c.a_resumed_window_shows_all_rows.ensures.media

pub returns-clause-iframes : goal.returns-clause-iframes
returns-clause-iframes c = both-frames c.a_resumed_window_shows_all_rows.ensures.iframes

pub returns-clause-seen : goal.returns-clause-seen
returns-clause-seen c = both-seen c.each_playlist_is_a_part_of_one_history.ensures.resumed

pub returns-clause-each : goal.returns-clause-each
returns-clause-each c = each-of-both c.a_resumed_window_shows_all_rows.ensures.media
