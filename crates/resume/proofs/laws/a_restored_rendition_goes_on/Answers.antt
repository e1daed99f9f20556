use Rattle.std.proofs.Common.{◌≡◌, arith}
use Rattle.media_playlist.specs.Gone.{IsSmall}
use Rattle.ladder_items.specs.Ladder.{RenditionValue, GoesOn}
use Rattle.resume.specs.declared.restored.Wanted.{Wanted}
use Rattle.resume.specs.Restoring.{RestoredValue, MayGoOn}
use Rattle.resume.proofs.laws.a_restored_rendition_goes_on.Goals as goal

is_small : (wanted : Wanted) (r : RestoredValue) → MayGoOn wanted r → IsSmall r.gone
is_small wanted r may = record {
  rows = omega (arith, may.next, may.limit);
  frames = omega (arith, may.frames);
  discontinuities = omega (arith, may.discontinuities);
}

goes_on : (wanted : Wanted) (r : RestoredValue) (rendition : RenditionValue) → MayGoOn wanted r →
    rendition.gone ≡ r.gone → rendition.earlier ≡ r.earlier → rendition.keys.first ≡ r.next →
    GoesOn wanted.kind wanted.target rendition
goes_on wanted r rendition may gone earlier first = record {
  first = rw (gone, earlier, first) may.next;
  few = rw earlier may.few;
  follow = rw (gone, earlier) may.follow;
  turns = rw earlier may.turns;
  limit = rw first may.limit;
  discontinuities = rw (gone, earlier) may.discontinuities;
  small = rw gone (is_small wanted r may);
  all = rw gone may.all;
}

pub returns : goal.returns
returns c = goes_on
