-- Renditions go on behind their own, one after another.
use Rattle.std.proofs.Common.{arith, ◌≡◌, ◌<◌, refl, sym, ap, subst, ◌∙◌, ℕ, zero, suc, List, [], ◌∷◌, ◌++◌, length, map, get_or, Option, Some}
use Rattle.std.specs.Prelude.{slice_get}
use Rattle.std.proofs.Math.ListN.{set}
use Rattle.std.proofs.lemmas.List.{length-map}
use Rattle.std.proofs.lemmas.Option.{same_Some}
use Rattle.ladder_items.specs.Ladder.{RenditionValue}
use Rattle.resume.specs.Restoring.{RestoredValue}
use Rattle.channel_folder.specs.Reopened.{MayGo, gone_on}
use Rattle.channel.specs.GoingOn.{behind_of, all_behind, AllGo, IsPastLimit}

-- one rendition more
pub behind-more : (renditions : List RenditionValue) (each : List RestoredValue) (one : RestoredValue) (d : RenditionValue) → length each < length renditions →
    set (all_behind renditions each) (length each) (behind_of (get_or (all_behind renditions each) (length each) d) one) ≡ all_behind renditions (each ++ one ∷ [])
behind-more [] [] one d lt = absurd (omega (arith, lt))
behind-more [] (e ∷ each) one d lt = absurd (omega (arith, lt))
behind-more (r ∷ renditions) [] one d lt = refl
behind-more (r ∷ renditions) (e ∷ each) one d lt = ap (λ (l : List RenditionValue). behind_of r e ∷ l) (behind-more renditions each one d (omega (arith, lt)))

-- as many as before
pub behind-count : (renditions : List RenditionValue) (each : List RestoredValue) → length (all_behind renditions each) ≡ length renditions
behind-count renditions [] = refl
behind-count [] (e ∷ each) = refl
behind-count (r ∷ renditions) (e ∷ each) = ap suc (behind-count renditions each)

-- one more whose numbers aren't past the last
pub go-more : (found : List (Option RestoredValue)) (most : Option ℕ) (one : Option RestoredValue) → AllGo found most → MayGo most one → AllGo (found ++ one ∷ []) most
go-more [] most one all new zero other is = subst (λ (o : Option RestoredValue). MayGo most o) (same_Some one other is) new
go-more [] most one all new (suc k) other is = cc is
go-more (f ∷ found) most one all new zero other is = all zero other is
go-more (f ∷ found) most one all new (suc k) other is = go-more found most one (λ j o at. all (suc j) o at) new k other is

at-seam : {A : Type 0} (before after : List A) (one : A) → slice_get (before ++ one ∷ after) (length before) ≡ Some one
at-seam [] after one = refl
at-seam (b ∷ before) after one = at-seam before after one

in-front : {A : Type 0} (before after : List A) (k : ℕ) → k < length before → slice_get (before ++ after) k ≡ slice_get before k
in-front [] after k lt = absurd (omega (arith, lt))
in-front (b ∷ before) after zero lt = refl
in-front (b ∷ before) after (suc k) lt = in-front before after k (omega (arith, lt))

-- the first of which they would be
pub past-here : (before after : List (Option RestoredValue)) (most : Option ℕ) (one : Option RestoredValue) → AllGo before most → ¬ MayGo most one →
    IsPastLimit (before ++ one ∷ after) most (length before)
past-here before after most one all past = record {
  one = one;
  is = at-seam before after one;
  past = past;
  first = λ k other lt is. all k other (sym (in-front before (one ∷ after) k lt) ∙ is);
}

pub map-more : {X Y : Type 0} (f : X → Y) (xs : List X) (x : X) → map f (xs ++ x ∷ []) ≡ map f xs ++ f x ∷ []
map-more f [] x = refl
map-more f (y ∷ xs) x = ap (λ l. f y ∷ l) (map-more f xs x)

-- one rendition more, by what was found of each
pub one-behind : (olds now : List RenditionValue) (found : List (Option RestoredValue)) (most : Option ℕ) (one : Option RestoredValue) (begun : RestoredValue) (r : ℕ) (new d : RenditionValue) →
    now ≡ all_behind olds (map (gone_on most) found) → r ≡ length found → length found < length olds → begun ≡ gone_on most one → new ≡ behind_of (get_or now r d) begun →
    set now r new ≡ all_behind olds (map (gone_on most) (found ++ one ∷ []))
one-behind olds now found most one begun r new d so_far count lt is changed =
    let each = map (gone_on most) found in
    let here : r ≡ length each = count ∙ sym (length-map found (gone_on most)) in
    let within : length each < length olds = omega (arith, lt, length-map found (gone_on most)) in
    ap (λ (v : RenditionValue). set now r v) changed
    ∙ ap (λ (l : List RenditionValue). set l r (behind_of (get_or l r d) begun)) so_far
    ∙ ap (λ (k : ℕ). set (all_behind olds each) k (behind_of (get_or (all_behind olds each) k d) begun)) here
    ∙ ap (λ (o : RestoredValue). set (all_behind olds each) (length each) (behind_of (get_or (all_behind olds each) (length each) d) o)) is
    ∙ behind-more olds each (gone_on most one) d within
    ∙ ap (λ (l : List RestoredValue). all_behind olds l) (sym (map-more (gone_on most) found one))
