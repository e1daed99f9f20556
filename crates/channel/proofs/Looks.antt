-- Rows are looked at from the last one on, one of each key.
use Rattle.std.proofs.Common.{arith, ◌≡◌, ◌⊎◌, inl, inr, ◌<◌, ◌≤◌, sym, ap, subst, ◌∙◌, ℕ, ◌+◌, zero, suc, Bool, true, false, List, length, All, replicate, Option, Some}
use Rattle.std.specs.Prelude.{slice_get, ◌↔◌}
use Rattle.std.proofs.lemmas.Bool.{cases_eq, cases_lt, false≢true}
use Rattle.std.proofs.lemmas.Option.{get_or_from_slice_get, same_Some, slice_get_within}
use Rattle.media_playlist.specs.Rows.{SegmentRow}
use Rattle.ladder_items.specs.Ladder.{RenditionValue}
use Rattle.resume.specs.Restoring.{RestoredValue}
use Rattle.channel.specs.Looking.{IsLastOfKey, KeysOpen, OpensAsListed, rows_of}

-- what holds of all holds of the one at a place
pub all-at : {A : Type 0} (P : A → Type 0) (xs : List A) (i : ℕ) (x : A) → All P xs → slice_get xs i ≡ Some x → P x
all-at P xs i x all at = subst P (get_or_from_slice_get xs i x x at) (all i x (slice_get_within xs i x at))

-- a row from place n on has this key
pub record HasKeyFrom (rows : List SegmentRow) (n key : ℕ) : Type 0 where
  pub place : ℕ
  pub row : SegmentRow
  pub from : n ≤ place
  pub at : slice_get rows place ≡ Some row
  pub is : row.key ≡ key

-- the keys of the rows from place n on are marked, and no others
pub record AreMarked (rows : List SegmentRow) (seen : List Bool) (n : ℕ) : Type 0 where
  pub marks : (j : ℕ) (row : SegmentRow) → n ≤ j → slice_get rows j ≡ Some row → slice_get seen row.key ≡ Some true
  pub only : (k : ℕ) → slice_get seen k ≡ Some true → HasKeyFrom rows n k

-- of each key, the last row opens that is from place n on
abbrev pub OpenFrom : (List ℕ → List ℕ → Type 0) → RenditionValue → List SegmentRow → ℕ → Type 0
OpenFrom Gives rendition rows n = (i : ℕ) (row : SegmentRow) → n ≤ i → IsLastOfKey rows i row → OpensAsListed Gives rendition row

-- one mark more
abbrev pub Marks : List Bool → List Bool → ℕ → Type 0
Marks old new key = (k : ℕ) → (slice_get new k ≡ Some true) ↔ ((k ≡ key) ⊎ (slice_get old k ≡ Some true))

none-true : (n k : ℕ) → slice_get (replicate n false) k ≡ Some true → ⊥
none-true zero k is = cc is
none-true (suc n) zero is = absurd (false≢true (same_Some false true is))
none-true (suc n) (suc k) is = none-true n k is

pub marked-none : (rows : List SegmentRow) (n m : ℕ) → m ≡ length rows → AreMarked rows (replicate n false) m
marked-none rows n m all = record {
  marks = λ j row past at. absurd (omega (arith, past, all, slice_get_within rows j row at));
  only = λ k is. absurd (none-true n k is);
}

pub marked-more : (rows : List SegmentRow) (old new : List Bool) (p : ℕ) (row : SegmentRow) → AreMarked rows old (suc p) → slice_get rows p ≡ Some row → Marks old new row.key →
    AreMarked rows new p
marked-more rows old new p row so_far at marks = record {
  marks = λ j other from is. elim (cases_eq j p) [
    | inl here ↦
        let same : row ≡ other = same_Some row other (sym at ∙ subst (λ (n : ℕ). slice_get rows n ≡ Some other) here is) in
        (marks other.key).1 (inl (ap (λ (x : SegmentRow). x.key) (sym same)))
    | inr there ↦ (marks other.key).1 (inr (so_far.marks j other (omega (arith, from, there)) is))
  ];
  only = λ k is. elim ((marks k).0 is) [
    | inl key ↦ record { place = p; row = row; from = omega arith; at = at; is = sym key }
    | inr before ↦
        let one = so_far.only k before in
        record { place = one.place; row = one.row; from = omega (arith, one.from); at = one.at; is = one.is }
  ];
}

pub open-none : (Gives : List ℕ → List ℕ → Type 0) (rendition : RenditionValue) (rows : List SegmentRow) (m : ℕ) → m ≡ length rows → OpenFrom Gives rendition rows m
open-none Gives rendition rows m all = λ i row past last. absurd (omega (arith, past, all, slice_get_within rows i row last.at))

-- the next one isn't the last of its key
pub open-seen : (Gives : List ℕ → List ℕ → Type 0) (rendition : RenditionValue) (rows : List SegmentRow) (seen : List Bool) (p : ℕ) (row : SegmentRow) → OpenFrom Gives rendition rows (suc p) →
    AreMarked rows seen (suc p) → slice_get rows p ≡ Some row → slice_get seen row.key ≡ Some true → OpenFrom Gives rendition rows p
open-seen Gives rendition rows seen p row so_far marked at was = λ i other from last. elim (cases_eq i p) [
  | inl here ↦
      let same : row ≡ other = same_Some row other (sym at ∙ subst (λ (n : ℕ). slice_get rows n ≡ Some other) here last.at) in
      let behind = marked.only row.key was in
      absurd (last.last behind.place behind.row (omega (arith, behind.from, here)) behind.at (behind.is ∙ ap (λ (x : SegmentRow). x.key) same))
  | inr there ↦ so_far i other (omega (arith, from, there)) last
]

-- the next one opens
pub open-more : (Gives : List ℕ → List ℕ → Type 0) (rendition : RenditionValue) (rows : List SegmentRow) (p : ℕ) (row : SegmentRow) → OpenFrom Gives rendition rows (suc p) →
    slice_get rows p ≡ Some row → OpensAsListed Gives rendition row → OpenFrom Gives rendition rows p
open-more Gives rendition rows p row so_far at opens = λ i other from last. elim (cases_eq i p) [
  | inl here ↦
      let same : row ≡ other = same_Some row other (sym at ∙ subst (λ (n : ℕ). slice_get rows n ≡ Some other) here last.at) in
      subst (λ (x : SegmentRow). OpensAsListed Gives rendition x) same opens
  | inr there ↦ so_far i other (omega (arith, from, there)) last
]

-- one whose key wasn't marked is the last of it
pub last-unseen : (rows : List SegmentRow) (seen : List Bool) (p : ℕ) (row : SegmentRow) → AreMarked rows seen (suc p) → slice_get rows p ≡ Some row → ¬ (slice_get seen row.key ≡ Some true) →
    IsLastOfKey rows p row
last-unseen rows seen p row marked at unseen = record {
  at = at;
  last = λ j other past is same. unseen (subst (λ (k : ℕ). slice_get seen k ≡ Some true) same (marked.marks j other (omega (arith, past)) is));
}

-- the same at a place that is told otherwise
pub marked-on : (rows : List SegmentRow) (old new : List Bool) (n m p key : ℕ) (row : SegmentRow) → n ≡ suc p → m ≡ p → AreMarked rows old n → slice_get rows p ≡ Some row → key ≡ row.key →
    Marks old new key → AreMarked rows new m
marked-on rows old new n m p key row from here so_far at is marks =
    subst (λ (k : ℕ). AreMarked rows new k) (sym here)
    (marked-more rows old new p row (subst (λ (k : ℕ). AreMarked rows old k) from so_far) at (subst (λ (k : ℕ). Marks old new k) is marks))

pub open-on-seen : (Gives : List ℕ → List ℕ → Type 0) (rendition : RenditionValue) (rows : List SegmentRow) (seen : List Bool) (n m p key : ℕ) (row : SegmentRow) → n ≡ suc p → m ≡ p →
    OpenFrom Gives rendition rows n → AreMarked rows seen n → slice_get rows p ≡ Some row → key ≡ row.key → slice_get seen key ≡ Some true → OpenFrom Gives rendition rows m
open-on-seen Gives rendition rows seen n m p key row from here so_far marked at is was =
    subst (λ (k : ℕ). OpenFrom Gives rendition rows k) (sym here)
    (open-seen Gives rendition rows seen p row (subst (λ (k : ℕ). OpenFrom Gives rendition rows k) from so_far) (subst (λ (k : ℕ). AreMarked rows seen k) from marked) at
    (subst (λ (k : ℕ). slice_get seen k ≡ Some true) is was))

pub open-on : (Gives : List ℕ → List ℕ → Type 0) (rendition : RenditionValue) (rows : List SegmentRow) (n m p : ℕ) (row : SegmentRow) → n ≡ suc p → m ≡ p →
    OpenFrom Gives rendition rows n → slice_get rows p ≡ Some row → OpensAsListed Gives rendition row → OpenFrom Gives rendition rows m
open-on Gives rendition rows n m p row from here so_far at opens =
    subst (λ (k : ℕ). OpenFrom Gives rendition rows k) (sym here)
    (open-more Gives rendition rows p row (subst (λ (k : ℕ). OpenFrom Gives rendition rows k) from so_far) at opens)

pub last-on : (rows : List SegmentRow) (seen : List Bool) (n p key : ℕ) (row : SegmentRow) → n ≡ suc p → AreMarked rows seen n → slice_get rows p ≡ Some row → key ≡ row.key →
    ¬ (slice_get seen key ≡ Some true) → IsLastOfKey rows p row
last-on rows seen n p key row from marked at is unseen =
    last-unseen rows seen p row (subst (λ (k : ℕ). AreMarked rows seen k) from marked) at (subst (λ (k : ℕ). ¬ (slice_get seen k ≡ Some true)) is unseen)

-- the keys of the first renditions open
abbrev pub KeysOpenTo : (List ℕ → List ℕ → Type 0) → List RenditionValue → List (Option RestoredValue) → ℕ → Type 0
KeysOpenTo Gives renditions found n = (r : ℕ) (rendition : RenditionValue) (one : Option RestoredValue) → r < n → slice_get renditions r ≡ Some rendition → slice_get found r ≡ Some one →
    KeysOpen Gives rendition (rows_of one)

-- those of one more
pub keys-more : (Gives : List ℕ → List ℕ → Type 0) (renditions : List RenditionValue) (found : List (Option RestoredValue)) (n : ℕ) (rendition : RenditionValue) (one : Option RestoredValue) →
    KeysOpenTo Gives renditions found n → slice_get renditions n ≡ Some rendition → slice_get found n ≡ Some one → KeysOpen Gives rendition (rows_of one) → KeysOpenTo Gives renditions found (n + 1)
keys-more Gives renditions found n rendition one so_far at_r at_one opens r other that lower is_r is_one = elim (cases_lt r n) [
  | inl below ↦ so_far r other that below is_r is_one
  | inr past ↦
      let here : r ≡ n = omega (arith, lower, past) in
      let same_r : rendition ≡ other = same_Some rendition other (sym at_r ∙ subst (λ (k : ℕ). slice_get renditions k ≡ Some other) here is_r) in
      let same_one : one ≡ that = same_Some one that (sym at_one ∙ subst (λ (k : ℕ). slice_get found k ≡ Some that) here is_one) in
      subst (λ (x : RenditionValue). KeysOpen Gives x (rows_of that)) same_r (subst (λ (o : Option RestoredValue). KeysOpen Gives rendition (rows_of o)) same_one opens)
]
