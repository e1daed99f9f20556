-- Blocks are rolled forward, rendition after rendition.
use Rattle.std.proofs.Common.{arith, ◌≡◌, ◌∙◌, refl, sym, ap, subst, ℕ, zero, suc, ◌+◌, ◌<◌, List, [], ◌∷◌, ◌++◌, append-nil, length, take, drop, get_or}
use Rattle.std.proofs.lemmas.List.{take_more}
use Rattle.ladder_items.specs.Ladder.{RenditionValue}
use Rattle.channel.specs.Reading.{names_of}
use Rattle.channel.specs.Views.{FolderView}
use Rattle.channel.specs.declared.fault.ResumingFault.{ResumingFault}
use Rattle.channel.proofs.Behind.{map-more}
use Rattle.channel.specs.Rolling.{IsOnlyRolled, IsRollFault, RollingStops, RollsEach, RollsOne}

-- one rendition more
pub rolls-more : {F : Type 0} (folder : FolderView F) (names : List (List ℕ)) (name : List ℕ) (before mid now : F) → RollsEach folder names before mid → RollsOne folder name mid now →
    RollsEach folder (names ++ name ∷ []) before now
rolls-more {F} folder [] name before mid now none one = (now, subst (λ (x : F). RollsOne folder name x now) none one, refl)
rolls-more folder (n ∷ names) name before mid now each one = (each.0, each.1, rolls-more folder names name each.0 mid now each.2 one)

-- all of them were
pub rolls-all : {F : Type 0} (folder : FolderView F) (names : List (List ℕ)) (before now : F) → RollsEach folder names before now → IsOnlyRolled folder names before now
rolls-all folder names before now each = record { done = names; rest = []; all = sym (append-nil names); rolls = each }

-- one name more
pub names-more : (renditions : List RenditionValue) (i : ℕ) (one : RenditionValue) → i < length renditions → one ≡ get_or renditions i one →
    names_of (take (i + 1) renditions) ≡ names_of (take i renditions) ++ one.name ∷ []
names-more renditions i one lt is =
    ap (λ (l : List RenditionValue). names_of l) (take_more renditions i one lt ∙ ap (λ (x : RenditionValue). take i renditions ++ x ∷ []) (sym is))
    ∙ map-more (λ (x : RenditionValue). x.name) (take i renditions) one

names-parts : (renditions : List RenditionValue) (i : ℕ) (one : RenditionValue) → i < length renditions →
    names_of renditions ≡ names_of (take i renditions) ++ (get_or renditions i one).name ∷ names_of (drop (suc i) renditions)
names-parts [] i one lt = absurd (omega (arith, lt))
names-parts (r ∷ renditions) zero one lt = refl
names-parts (r ∷ renditions) (suc i) one lt = ap (λ (l : List (List ℕ)). r.name ∷ l) (names-parts renditions i one (omega (arith, lt)))

-- it stopped at one
pub stops-at : {F : Type 0} (folder : FolderView F) (renditions : List RenditionValue) (i : ℕ) (one : RenditionValue) (before mid now : F) (fault : ResumingFault) → i < length renditions →
    one ≡ get_or renditions i one → RollsEach folder (names_of (take i renditions)) before mid → IsRollFault folder one.name mid now fault → RollingStops folder (names_of renditions) before now fault
stops-at folder renditions i one before mid now fault lt is rolls stops = record {
  done = names_of (take i renditions);
  next = one.name;
  rest = names_of (drop (suc i) renditions);
  all = names-parts renditions i one lt ∙ ap (λ (x : RenditionValue). names_of (take i renditions) ++ x.name ∷ names_of (drop (suc i) renditions)) (sym is);
  mid = mid;
  rolls = rolls;
  stops = stops;
}
