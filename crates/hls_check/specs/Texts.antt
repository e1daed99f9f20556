-- What the steps of unpacking find.
use Rattle.std.specs.Prelude.{◌≡◌, ℕ, ◌<◌, ◌⊎◌, List, [], length, slice_index_or, Option, Some, None}
use Rattle.std.specs.List.{concat}
use Rattle.aes_cbc.specs.Opening.{Seals}
use Rattle.hls_check.specs.declared.fault.UnpackFault.{UnpackFault}
use Rattle.hls_check.specs.declared.fault.UnpackFault.TheVariants.{Missing, Closed, NoHead, NoMemory}
use Rattle.hls_check.specs.Heads.{MayHoldHead}
use Rattle.hls_check.specs.Unpacking.{Packed, key_at, vector_at, bytes_at, IsOpen, IsReached, IsFirstWithout, BeginsWithHead}

-- the one text that is sealed to these bytes, under a key and a vector
pub record IsTheText (key vector bytes text : List ℕ) : Type 0 where
  pub seals : Seals key vector text bytes
  pub only : (other : List ℕ) → Seals key vector other bytes → text ≡ other

-- the one text that entry i opens to
abbrev pub OpensAlone : Packed → ℕ → List ℕ → Type 0
OpensAlone p i text = IsTheText (key_at p i) (vector_at p i) (bytes_at p i) text

-- the texts that the entries open to
pub record AreTexts (p : Packed) (texts : List (List ℕ)) : Type 0 where
  pub each_one : length texts ≡ length p.entries
  pub opens : (i : ℕ) → i < length texts → OpensAlone p i (slice_index_or texts i [])

-- why there aren't all
abbrev pub IsNoText : Packed → UnpackFault → Type 0
IsNoText p (Missing i) = ⊥
IsNoText p (Closed i) = IsFirstWithout p (IsOpen p) i
IsNoText p (NoHead i) = ⊥
IsNoText p NoMemory = IsReached p

-- what stands behind the heads of texts
pub record AreRests (texts rests : List (List ℕ)) : Type 0 where
  pub each_one : length rests ≡ length texts
  pub begins : (i : ℕ) → i < length rests → BeginsWithHead (slice_index_or texts i []) (slice_index_or rests i [])

-- text i is the first that begins with no head
pub record IsFirstHeadless (texts : List (List ℕ)) (i : ℕ) : Type 0 where
  pub text : i < length texts
  pub without : (rest : List ℕ) → ¬ BeginsWithHead (slice_index_or texts i []) rest
  pub before : (j : ℕ) → j < i → (rest : List ℕ) × BeginsWithHead (slice_index_or texts j []) rest

-- a text may begin with a head, by its length and that of the section which it tells, and each before it begins with one
pub record IsReachedText (texts : List (List ℕ)) : Type 0 where
  pub place : ℕ
  pub text : place < length texts
  pub holds : MayHoldHead (slice_index_or texts place [])
  pub before : (j : ℕ) → j < place → (rest : List ℕ) × BeginsWithHead (slice_index_or texts j []) rest

-- why there aren't all: memory is wanted for a text alone that may begin with a head, behind such as begin with one
abbrev pub IsNoRest : List (List ℕ) → UnpackFault → Type 0
IsNoRest texts (Missing i) = ⊥
IsNoRest texts (Closed i) = ⊥
IsNoRest texts (NoHead i) = IsFirstHeadless texts i
IsNoRest texts NoMemory = IsReachedText texts

-- what stands behind the heads of texts: so many bytes, or a first text has none
abbrev pub HaveBytes : List (List ℕ) → Option ℕ → ℕ → Type 0
HaveBytes texts None bytes = (rests : List (List ℕ)) × AreRests texts rests × (bytes ≡ length (concat rests))
HaveBytes texts (Some i) bytes = IsFirstHeadless texts i

-- why bytes weren't counted: an entry doesn't open, or all open, and a text has no head
abbrev pub IsNotCounted : Packed → UnpackFault → Type 0
IsNotCounted p fault = IsNoText p fault ⊎ ((texts : List (List ℕ)) × AreTexts p texts × IsNoRest texts fault)
