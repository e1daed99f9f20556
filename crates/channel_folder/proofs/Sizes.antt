-- One more number, and one more listed segment with its size.
use Rattle.std.proofs.Common.{arith, ◌≡◌, ◌∙◌, ◌<◌, refl, sym, ap, subst, ℕ, zero, suc, List, [], ◌∷◌, ◌++◌, All, length, take, drop, get_or, drop-cons}
use Rattle.std.proofs.lemmas.List.{take-append-drop}
use Rattle.std.proofs.lemmas.List.Elements.{All-append}
use Rattle.playlist_text.specs.MediaLines.{Entry}
use Rattle.item_io.specs.FileNames.{segment_file_name}
use Rattle.channel_folder.specs.Reopened.{AreSizes, HasSize}
use Rattle.channel_folder.specs.declared.fault.ReopenStop.{ReopenStop}
use Rattle.channel_folder.specs.declared.fault.ReopenStop.TheVariants as Stopping
use Rattle.channel_folder.specs.declared.fault.WhyNot.{WhyNot}
use Rattle.channel_folder.specs.Shut.{HasShutSegment}
use Rattle.channel_folder.specs.Stopped.{IsLostOf, IsSizeStop, IsUnsized}

one-below : (next x : ℕ) → x < next → All (λ n. n < next) (x ∷ [])
one-below next x lower zero d within = lower
one-below next x lower (suc k) d within = absurd (omega (arith, within))

pub below-more : (next : ℕ) (xs : List ℕ) (x : ℕ) → All (λ n. n < next) xs → x < next → All (λ n. n < next) (xs ++ x ∷ [])
below-more next xs x all lower = All-append (λ n. n < next) xs (x ∷ []) all (one-below next x lower)

pub sizes-more : (Gives : List ℕ → List ℕ → Type 0) (name : List ℕ) (entries : List Entry) (sizes : List ℕ) (entry : Entry) (size : ℕ) →
    AreSizes Gives name entries sizes → HasSize Gives name entry size → AreSizes Gives name (entries ++ entry ∷ []) (sizes ++ size ∷ [])
sizes-more Gives name [] sizes entry size none has = subst (λ (l : List ℕ). AreSizes Gives name (entry ∷ []) (l ++ size ∷ [])) (sym none) (has, refl)
sizes-more Gives name (e ∷ entries) [] entry size are has = absurd are
sizes-more Gives name (e ∷ entries) (s ∷ sizes) entry size are has = (are.0, sizes-more Gives name entries sizes entry size are.1 has)

-- the first listed segment whose file isn't there
lost-at : (Gives : List ℕ → List ℕ → Type 0) (Lacks : List ℕ → Type 0) (name : List ℕ) (entries : List Entry) (sizes : List ℕ) (i : ℕ) (entry : Entry) (n : ℕ) →
    i < length entries → entry ≡ get_or entries i entry → AreSizes Gives name (take i entries) sizes → n ≡ entry.number → Lacks (segment_file_name name n) →
    IsLostOf Gives Lacks name entries n
lost-at Gives Lacks name entries sizes i entry n within is before number lacks = record {
  front = take i entries;
  entry = entry;
  rest = drop (suc i) entries;
  listed = sym (take-append-drop i entries) ∙ ap (λ (l : List Entry). take i entries ++ l) (drop-cons entries i entry within ∙ ap (λ (e : Entry). e ∷ drop (suc i) entries) (sym is));
  number = number;
  sizes = sizes;
  before = before;
  lacks = lacks;
}

-- the first listed segment whose file can't be read
shut-at : (Shut : List ℕ → Type 0) (Gives : List ℕ → List ℕ → Type 0) (name : List ℕ) (entries : List Entry) (sizes : List ℕ) (i : ℕ) (entry : Entry) →
    i < length entries → entry ≡ get_or entries i entry → AreSizes Gives name (take i entries) sizes → Shut (segment_file_name name entry.number) → HasShutSegment Shut Gives name entries
shut-at Shut Gives name entries sizes i entry within is before shut = record {
  front = take i entries;
  entry = entry;
  rest = drop (suc i) entries;
  listed = sym (take-append-drop i entries) ∙ ap (λ (l : List Entry). take i entries ++ l) (drop-cons entries i entry within ∙ ap (λ (e : Entry). e ∷ drop (suc i) entries) (sym is));
  sizes = sizes;
  before = before;
  shut = shut;
}

-- why its size isn't told
pub unsized-at : (Shut : List ℕ → Type 0) (Wants : Type 0) (Gives : List ℕ → List ℕ → Type 0) (Lacks : List ℕ → Type 0) (name : List ℕ) (entries : List Entry) (sizes : List ℕ) (i : ℕ) (entry : Entry) (n : ℕ)
    (file : List ℕ) (stop : ReopenStop) → i < length entries → entry ≡ get_or entries i entry → AreSizes Gives name (take i entries) sizes → n ≡ entry.number → file ≡ segment_file_name name n →
    IsUnsized (Shut file) Wants (Lacks file) n stop → IsSizeStop Shut Gives Lacks name entries stop
unsized-at Shut Wants Gives Lacks name entries sizes i entry n file Stopping.Unread within is before number named told =
    shut-at Shut Gives name entries sizes i entry within is before (subst (λ (k : ℕ). Shut (segment_file_name name k)) number (subst Shut named told))
unsized-at Shut Wants Gives Lacks name entries sizes i entry n file Stopping.NoMemory within is before number named told = tt
unsized-at Shut Wants Gives Lacks name entries sizes i entry n file (Stopping.Why why) within is before number named told =
    subst (λ (w : WhyNot). IsSizeStop Shut Gives Lacks name entries (Stopping.Why w)) (sym told.0)
    (lost-at Gives Lacks name entries sizes i entry n within is before number (subst Lacks named told.1))
