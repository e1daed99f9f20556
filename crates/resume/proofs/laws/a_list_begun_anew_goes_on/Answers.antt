use Rattle.std.proofs.Common.{◌≡◌, ◌<◌, ℕ, [], arith}
use Rattle.std.proofs.lemmas.List.Elements.{All-nil}
use Rattle.limits.specs.declared.TheConstants.{MOST_KEYS}
use Rattle.media_playlist.specs.Gone.{IsSmall}
use Rattle.media_playlist.specs.Rows.{SegmentRow}
use Rattle.ladder_items.specs.Ladder.{RenditionValue, GoesOn}
use Rattle.ladder_items.specs.declared.settings.Kind.TheVariants.{Live}
use Rattle.resume.specs.declared.restored.Wanted.{Wanted}
use Rattle.resume.specs.Restoring.{RestoredValue, MayGoOn}
use Rattle.resume.specs.Evening.{anew, MayBeAnew}
use Rattle.resume.proofs.laws.a_list_begun_anew_goes_on.Goals as goal

is_small : (wanted : Wanted) (most : ℕ) (r : RestoredValue) → MayGoOn wanted r → MayBeAnew most r → IsSmall (anew most r).gone
is_small wanted most r may within = record {
  rows = omega (arith, may.limit);
  frames = within.1;
  discontinuities = omega (arith, within.0);
}

goes_on : (wanted : Wanted) (most : ℕ) (r : RestoredValue) (rendition : RenditionValue) → MayGoOn wanted r → wanted.kind ≡ Live →
    MayBeAnew most r → rendition.gone ≡ (anew most r).gone → rendition.earlier ≡ [] → rendition.keys.first ≡ r.next →
    GoesOn wanted.kind wanted.target rendition
goes_on wanted most r rendition may live within gone earlier first = record {
  first = rw (gone, earlier, first) (omega arith);
  few = rw earlier (omega arith);
  follow = rw (gone, earlier) (λ k row is. cc is);
  turns = rw earlier (All-nil (λ (row : SegmentRow). row.key < MOST_KEYS));
  limit = rw first may.limit;
  discontinuities = rw (gone, earlier) (omega (arith, within.0));
  small = rw gone (is_small wanted most r may within);
  all = rw (gone, live) tt;
}

pub returns : goal.returns
returns c = goes_on
