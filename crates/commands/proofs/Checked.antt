-- What is told of a playlist that isn't one, and of segments that don't unpack.
use Rattle.std.proofs.Common.{◌≡◌, ◌∙◌, ℕ, List, sym, subst, IfErr, IsErrAnd, Result, inr}
use Rattle.std.proofs.lemmas.Result.{IfErr-weaker, err_from_is_err_and}
use Rattle.playlist_text.specs.MediaLines.{Listing}
use Rattle.hls_check.specs.declared.fault.UnpackFault.{UnpackFault}
use Rattle.hls_check.specs.declared.fault.UnpackFault.TheVariants.{NoMemory as NoMemoryForSegments}
use Rattle.hls_check.specs.declared.checking.CheckFault.TheVariants.{Text, Segments}
use Rattle.media_reading.specs.declared.list_fault.ListFault.{ListFault}
use Rattle.media_reading.specs.declared.list_fault.ListFault.TheVariants.{NoMemory as NoMemoryForText}
use Rattle.media_reading.specs.MediaTexts.{IsListing, listing_text, IsUnread, WantsMemory}
use Rattle.hls_check.specs.Unpacking.{HasBytes, IsTold, packed}
use Rattle.commands.specs.declared.kept.Kept.{Kept}
use Rattle.commands.specs.declared.checking.CheckingFault.{CheckingFault}
use Rattle.commands.specs.declared.checking.CheckingFault.TheVariants.{Unread, Faulty, Unwritten, NoMemory}
use Rattle.commands.specs.Checking.{AllGive, GivesListing, IsCheckFault, IsSegmentsFault, segment_paths}

-- the file of a playlist was read, and its text isn't that of one
pub text-told : {T : Type 0} (gives : List ℕ → List ℕ → Type 0) (refuses wants : List ℕ → Type 0) (keys : List (List ℕ)) (playlist text read : List ℕ)
    (why : ListFault) (r : Result T (Kept CheckingFault))
    → IsErrAnd r (λ kept. kept.fault ≡ Faulty (Text why)) → gives playlist text → read ≡ text → IsUnread read why → (why ≡ NoMemoryForText → WantsMemory read)
    → IfErr r (λ kept. IsCheckFault gives refuses wants keys playlist kept.fault)
text-told gives refuses wants keys playlist text read why r is given same unread scarce =
    let found = err_from_is_err_and r is in
    rw found.1 (subst (IsCheckFault gives refuses wants keys playlist) (sym found.2) (
      text,
      given,
      subst (λ (t : List ℕ). IsUnread t why) same unread,
      λ none. subst WantsMemory same (scarce none),
    ))

-- the segments of a playlist were read, and don't unpack
pub segments-told : {T : Type 0} (gives : List ℕ → List ℕ → Type 0) (refuses wants : List ℕ → Type 0) (keys : List (List ℕ)) (listing : Listing)
    (paths segments : List (List ℕ)) (why : UnpackFault) (r : Result T (Kept CheckingFault))
    → IsErrAnd r (λ kept. kept.fault ≡ Faulty (Segments why)) → AllGive gives paths segments → IsTold (packed listing.salt listing.entries segments keys) why
    → (why ≡ NoMemoryForSegments → HasBytes (packed listing.salt listing.entries segments keys))
    → IfErr r (λ kept. IsSegmentsFault gives refuses wants keys listing paths kept.fault)
segments-told gives refuses wants keys listing paths segments why r is all told scarce =
    let found = err_from_is_err_and r is in
    rw found.1 (subst (IsSegmentsFault gives refuses wants keys listing paths) (sym found.2) (segments, all, told, scarce))

-- what is told of its segments, once its file gave it
behind-listing : (gives : List ℕ → List ℕ → Type 0) (refuses wants : List ℕ → Type 0) (keys : List (List ℕ)) (playlist text : List ℕ) (listing : Listing)
    → GivesListing gives playlist text listing → (fault : CheckingFault)
    → IsSegmentsFault gives refuses wants keys listing (segment_paths playlist listing) fault → IsCheckFault gives refuses wants keys playlist fault
behind-listing gives refuses wants keys playlist text listing is Unread lacks = inr (record { text = text; listing = listing; playlist_is = is; lacks = lacks })
behind-listing gives refuses wants keys playlist text listing is (Faulty (Text why)) none = absurd none
behind-listing gives refuses wants keys playlist text listing is (Faulty (Segments why)) (segments, all, told, scarce) = (
  text,
  segments,
  record { listing = listing; playlist_is = is; given = all },
  record { listing = listing; sound = is.sound; is_text = is.is_text; told = told },
  λ none. record { listing = listing; sound = is.sound; is_text = is.is_text; bytes = scarce none },
)
behind-listing gives refuses wants keys playlist text listing is Unwritten none = absurd none
behind-listing gives refuses wants keys playlist text listing is NoMemory wanted = inr (text, listing, is)

-- what is told of the segments at these paths, which are those of a playlist that was read
pub listing-told : {T : Type 0} (gives : List ℕ → List ℕ → Type 0) (refuses wants : List ℕ → Type 0) (keys : List (List ℕ)) (playlist text read : List ℕ)
    (listing : Listing) (paths : List (List ℕ)) (r : Result T (Kept CheckingFault))
    → gives playlist text → read ≡ text → IsListing listing → read ≡ listing_text listing → paths ≡ segment_paths playlist listing
    → IfErr r (λ kept. IsSegmentsFault gives refuses wants keys listing paths kept.fault) → IfErr r (λ kept. IsCheckFault gives refuses wants keys playlist kept.fault)
listing-told gives refuses wants keys playlist text read listing paths r given same sound is_text at told =
    let is : GivesListing gives playlist text listing = record { given = given; sound = sound; is_text = sym same ∙ is_text } in
    IfErr-weaker r (λ kept. IsSegmentsFault gives refuses wants keys listing paths kept.fault) (λ kept. IsCheckFault gives refuses wants keys playlist kept.fault)
    (λ kept f. behind-listing gives refuses wants keys playlist text listing is kept.fault
    (subst (λ ps. IsSegmentsFault gives refuses wants keys listing ps kept.fault) at f)) told
