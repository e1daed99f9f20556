-- A weave is whole blocks.
use Rattle.std.proofs.Common.{◌≡◌, ◌∙◌, ℕ, zero, suc, ◌<◌, Bool, true, false, List, [], ◌∷◌, map, length, get_or, refl, sym, subst, arith}
use Rattle.std.specs.Prelude.{not}
use Rattle.std.specs.List.{list_any}
use Rattle.std.proofs.lemmas.List.{length-replicate}
use Rattle.playlist_text.specs.Names.{is_name}
use Rattle.master_playlist.specs.Listed.{Listed}
use Rattle.item_io.specs.Items.{ItemValue}
use Rattle.item_io.specs.Blocks.{AreBlocks}
use Rattle.ladder_items.specs.Ladder.{IsAllowed, Ladder, RenditionValue, no_rendition, rendition_at, unmeasured}
use Rattle.ladder_items.specs.Items.{Part, no_part}
use Rattle.ladder_items.specs.Weave.{AreLegal, End, Event, Row, Weaves, after, blocks, none_of}
use Rattle.ladder_items.proofs.Listing.{or_none, none_stands}
use Rattle.ladder_items.proofs.Elsewhere.{after-length}

not-false : (t : Bool) → not t ≡ false → t ≡ true
not-false true e = refl
not-false false e = absurd (cc e)

all-named : (rs : List RenditionValue) → list_any (λ (v : Listed). not (is_name v.name)) (map unmeasured rs) ≡ false → (r : ℕ) → r < length rs → is_name (get_or rs r no_rendition).name ≡ true
all-named [] none r within = absurd (omega (arith, within))
all-named (q ∷ rs) none zero within = not-false _ (or_none (not (is_name q.name)) (list_any (λ (v : Listed). not (is_name v.name)) (map unmeasured rs)) none).0
all-named (q ∷ rs) none (suc r) within =
    all-named rs (or_none (not (is_name q.name)) (list_any (λ (v : Listed). not (is_name v.name)) (map unmeasured rs)) none).1 r (omega (arith, within))

-- each rendition has a name that it may have
abbrev AreNamed : Ladder → Type 0
AreNamed ladder = (r : ℕ) → r < length ladder.renditions → is_name (rendition_at ladder r).name ≡ true

named : (ladder : Ladder) → IsAllowed ladder → AreNamed ladder
named ladder allowed r within = all-named ladder.renditions (none_stands (map unmeasured ladder.renditions) allowed.listable).name r within

blocks-whole : (ladder : Ladder) → AreNamed ladder → (parts : List Part) (events : List Event) → length parts ≡ length ladder.renditions → AreLegal parts events → AreBlocks (blocks ladder parts events)
unfolding blocks AreLegal
blocks-whole ladder names parts [] same legal = tt
blocks-whole ladder names parts (Row r plan ∷ events) same legal =
    let within : r < length ladder.renditions = omega (arith, legal.0, same) in
    (names r within, refl, refl, blocks-whole ladder names (after parts (Row r plan)) events (after-length parts (Row r plan) ∙ same) legal.2)
blocks-whole ladder names parts (End r ∷ events) same legal =
    let within : r < length ladder.renditions = omega (arith, legal.0, same) in
    (names r within, refl, blocks-whole ladder names (after parts (End r)) events (after-length parts (End r) ∙ same) legal.2)

pub weaves-whole : (ladder : Ladder) (parts : List Part) (items : List ItemValue) → IsAllowed ladder → Weaves ladder parts items → AreBlocks items
weaves-whole ladder parts items allowed weaves =
    subst (λ (l : List ItemValue). AreBlocks l) (sym weaves.items_are)
    (blocks-whole ladder (named ladder allowed) (none_of ladder) weaves.events (length-replicate (length ladder.renditions) no_part) weaves.legal)
