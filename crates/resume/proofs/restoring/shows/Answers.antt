use Rattle.std.proofs.Common.{rules, ◌≡◌, ◌≢◌, ap, subst, false, OnErr, OnOk, ◌∙◌}
use Rattle.ladder_items.specs.Shown.{Shown}
use Rattle.playlist_text.specs.Lines.{text_of}
use Rattle.media_playlist.specs.Lines.{iframe_lines}
use Rattle.resume.specs.Restoring.{RestoredValue, window_over}
use Rattle.resume.proofs.Reading.{next-rows-same}
use Rattle.resume.proofs.restoring.shows.Goals as goal

pub behind-requires-clause-follow : goal.behind-requires-clause-follow
behind-requires-clause-follow c =
    let view = c.restored.view_is in
    next-rows-same c.args.wanted.target c.in_ok-none.none.target c.args.restored.now.gone.rows c.restored.inside.gone.rows c.args.restored.now.earlier c.deref.result.now
    (ap (λ (s : Shown). s.target) c.in_ok-none.ensures) (ap (λ (r : RestoredValue). r.gone.rows) view)
    (c.deref.ensures.value ∙ ap (λ (r : RestoredValue). r.earlier) view) c.requires.may_go_on.follow

pub returns : goal.returns
returns c =
    let text : c.as_str.result.now ≡ text_of (iframe_lines (window_over c.args.name.now c.args.wanted c.args.restored.now) false) = search rules in
    subst (λ t. OnOk c.same.result (c.args.frames.now ≡ t) × OnErr c.same.result (c.args.frames.now ≢ t)) text (c.same.ensures.same, c.same.ensures.apart)
