-- Whether a playlist and its segments are whole.
use Rattle.std.specs.Prelude.{◌≡◌, ℕ, List, length}
use Rattle.std.specs.List.{concat}
use Rattle.playlist_text.specs.MediaLines.{Listing}
use Rattle.media_reading.specs.declared.list_fault.ListFault.TheVariants.{NoMemory as NoMemoryForText}
use Rattle.hls_check.specs.declared.fault.UnpackFault.{UnpackFault}
use Rattle.hls_check.specs.declared.fault.UnpackFault.TheVariants.{NoMemory as NoMemoryForSegments}
use Rattle.hls_check.specs.declared.checking.Checked.{Checked}
use Rattle.hls_check.specs.declared.checking.CheckFault.{CheckFault}
use Rattle.hls_check.specs.declared.checking.CheckFault.TheVariants.{Text, Segments}
use Rattle.media_reading.specs.MediaTexts.{IsListing, listing_text, IsUnread}
use Rattle.hls_check.specs.Unpacking.{Packed, packed, AllUnpack, HasBytes, IsTold}

-- each entry of a playlist unpacks: so many, to so many bytes
pub record AreUnpacked (p : Packed) (c : Checked) : Type 0 where
  pub rests : List (List ℕ)
  pub unpack : AllUnpack p rests
  pub count : c.segments ≡ length p.entries
  pub bytes : c.bytes ≡ length (concat rests)

-- the text is that of a playlist, and each of its entries unpacks
pub record AreWhole (text : List ℕ) (segments keys : List (List ℕ)) (c : Checked) : Type 0 where
  pub listing : Listing
  pub sound : IsListing listing
  pub is_text : text ≡ listing_text listing
  pub unpacked : AreUnpacked (packed listing.salt listing.entries segments keys) c

-- the text is that of a playlist whose segments don't unpack
pub record DontUnpack (text : List ℕ) (segments keys : List (List ℕ)) (fault : UnpackFault) : Type 0 where
  pub listing : Listing
  pub sound : IsListing listing
  pub is_text : text ≡ listing_text listing
  pub told : IsTold (packed listing.salt listing.entries segments keys) fault

-- the text is that of a playlist of which an entry opens to some bytes, as each before it opens
pub record WantsBytes (text : List ℕ) (segments keys : List (List ℕ)) : Type 0 where
  pub listing : Listing
  pub sound : IsListing listing
  pub is_text : text ≡ listing_text listing
  pub bytes : HasBytes (packed listing.salt listing.entries segments keys)

-- why they aren't whole: the text comes first
abbrev pub IsFaulty : List ℕ → List (List ℕ) → List (List ℕ) → CheckFault → Type 0
IsFaulty text segments keys (Text why) = IsUnread text why
IsFaulty text segments keys (Segments why) = DontUnpack text segments keys why

-- there was no memory
abbrev pub IsMemory : CheckFault → Type 0
IsMemory (Text why) = why ≡ NoMemoryForText
IsMemory (Segments why) = why ≡ NoMemoryForSegments
