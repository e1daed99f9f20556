use Rattle.std.proofs.Common.{rules}
use Rattle.std.specs.Arc.{arc_value}
use Rattle.std.specs.String.{string_bytes}
use Rattle.std.proofs.lemmas.List.{get_or_default}
use Rattle.ladder_items.specs.Shown.{media_text, frames_text}
use Rattle.rounds.proofs.Snapshots.{map-next, map-all}
use Rattle.rounds.proofs.giving.snapshots.texts.Goals as goal

pub loop-i-preserved : goal.loop-i-preserved
loop-i-preserved c = record {
  media = map-next (λ x. media_text x.0 x.1) (λ t. string_bytes (arc_value t)) c.args.playlists.now c.args.ended.now c.loop-i.i c.index-playlists-i.result _ _ _ _
      (search rules) c.requires c.index-playlists-i.is (get_or_default c.args.ended.now c.loop-i.i _ _ (search rules)) c.loop-i.invariant.media c.in_ok-push.ensures.items c.in_ok-shared_media_text.ensures;
  frames = map-next (λ x. frames_text x.0 x.1) (λ t. string_bytes (arc_value t)) c.args.playlists.now c.args.ended.now c.loop-i.i c.index-playlists-i-in-loop-i.result _ _ _ _
      (search rules) c.requires c.index-playlists-i-in-loop-i.is (get_or_default c.args.ended.now c.loop-i.i _ _ (search rules)) c.loop-i.invariant.frames c.in_ok-push-2.ensures.items c.in_ok-shared_frames_text.ensures;
}

pub returns-clause-media : goal.returns-clause-media
returns-clause-media c = map-all (λ x. media_text x.0 x.1) c.args.playlists.now c.args.ended.now c.loop-i.i _ (search rules) c.requires c.loop-i.invariant.media

pub returns-clause-frames : goal.returns-clause-frames
returns-clause-frames c = map-all (λ x. frames_text x.0 x.1) c.args.playlists.now c.args.ended.now c.loop-i.i _ (search rules) c.requires c.loop-i.invariant.frames
