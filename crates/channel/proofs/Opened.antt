-- A segment that is listed alone opens, or doesn't.
use Rattle.std.proofs.Common.{arith, ◌≡◌, ◌≢◌, refl, sym, subst, ℕ, List, [], ◌∷◌, length, Option}
use Rattle.std.specs.Prelude.{slice_index_or}
use Rattle.hls_check.specs.declared.fault.UnpackFault.{UnpackFault}
use Rattle.hls_check.specs.declared.fault.UnpackFault.TheVariants.{Missing, Closed, NoHead, NoMemory}
use Rattle.hls_check.specs.declared.checking.Checked.{Checked}
use Rattle.hls_check.specs.Checks.{AreUnpacked}
use Rattle.hls_check.specs.Unpacking.{HasHead, IsFirstWithout, IsTold, Packed, packed}
use Rattle.media_playlist.specs.Rows.{SegmentRow}
use Rattle.media_playlist.specs.Lines.{entry_of}
use Rattle.playlist_text.specs.MediaLines.{Entry}
use Rattle.ladder_items.specs.Ladder.{RenditionValue}
use Rattle.channel.specs.Faults.{of_unpacking}
use Rattle.channel.specs.Looking.{alone, IsPackedFault, IsShutFault}
use Rattle.channel.specs.declared.fault.ResumingFault.{ResumingFault}

-- all of it unpacks
pub opened-head : (p : Packed) (c : Checked) → length p.entries ≡ 1 → AreUnpacked p c → HasHead p 0
opened-head p c one are = (slice_index_or are.rests 0 [], are.unpack.unpacks 0 (omega (arith, one, are.unpack.each_one)))

first-is : (p : Packed) (Holds : ℕ → Type 0) (i : ℕ) → length p.entries ≡ 1 → IsFirstWithout p Holds i → ¬ Holds 0
first-is p Holds i one first = let at : i ≡ 0 = omega (arith, one, first.entry) in subst (λ (n : ℕ). ¬ Holds n) at first.without

-- what is told of it
pub closed-head : (p : Packed) (fault : UnpackFault) → length p.entries ≡ 1 → IsTold p fault → fault ≢ NoMemory → ¬ HasHead p 0
closed-head p (Missing i) one told other = λ has. first-is p _ i one told has.1.there
closed-head p (Closed i) one told other = λ has. first-is p _ i one told.1 (has.1.text, has.1.opens)
closed-head p (NoHead i) one told other = first-is p _ i one told.2
closed-head p NoMemory one told other = absurd (other refl)

-- the same, by what it is listed with
pub opened-alone : (rendition : RenditionValue) (row : SegmentRow) (bytes : List ℕ) (salt : Option (List ℕ)) (entries : List Entry) (segments keys : List (List ℕ)) (c : Checked) →
    salt ≡ rendition.salt → entries ≡ entry_of row ∷ [] → segments ≡ bytes ∷ [] → keys ≡ rendition.keys.keys → AreUnpacked (packed salt entries segments keys) c →
    HasHead (alone rendition row bytes) 0
opened-alone rendition row bytes salt entries segments keys c is_salt are_entries are_segments are_keys are =
    let same : packed salt entries segments keys ≡ alone rendition row bytes = rw (is_salt, are_entries, are_segments, are_keys) refl in
    opened-head (alone rendition row bytes) c refl (subst (λ (p : Packed). AreUnpacked p c) same are)

-- what is told of one that is listed alone
shut-head : (p : Packed) (r key : ℕ) (why : UnpackFault) → length p.entries ≡ 1 → IsTold p why → IsShutFault p r key (of_unpacking r key why)
shut-head p r key (Missing i) one told = (refl, refl, closed-head p (Missing i) one told (λ is. cc is))
shut-head p r key (Closed i) one told = (refl, refl, closed-head p (Closed i) one told (λ is. cc is))
shut-head p r key (NoHead i) one told = (refl, refl, closed-head p (NoHead i) one told (λ is. cc is))
shut-head p r key NoMemory one told = tt

pub shut-alone : (rendition : RenditionValue) (row : SegmentRow) (bytes : List ℕ) (salt : Option (List ℕ)) (entries : List Entry) (segments keys : List (List ℕ)) (r key : ℕ) (fault : ResumingFault) →
    salt ≡ rendition.salt → entries ≡ entry_of row ∷ [] → segments ≡ bytes ∷ [] → keys ≡ rendition.keys.keys → key ≡ row.key → IsPackedFault (packed salt entries segments keys) r key fault →
    IsShutFault (alone rendition row bytes) r row.key fault
shut-alone rendition row bytes salt entries segments keys r key fault is_salt are_entries are_segments are_keys is_key told =
    let same : packed salt entries segments keys ≡ alone rendition row bytes = rw (is_salt, are_entries, are_segments, are_keys) refl in
    let p = alone rendition row bytes in
    subst (λ (k : ℕ). IsShutFault p r k fault) is_key
    (subst (λ (f : ResumingFault). IsShutFault p r key f) (sym told.1) (shut-head p r key told.0 refl (subst (λ (q : Packed). IsTold q told.0) same told.2)))
