-- Whether a media playlist is one that a run goes on from.
use Rattle.std.specs.Prelude.{◌≡◌, ◌≢◌, ◌+◌, ◌≤◌, true, false, length}
use Rattle.playlist_text.specs.MediaLines.{Listing}
use Rattle.ladder_items.specs.Ladder.{is_event}
use Rattle.ladder_items.specs.declared.settings.TheConstants.{MOST_EARLIER}
use Rattle.limits.specs.declared.TheConstants.{LAST_SEGMENT}
use Rattle.resume.specs.declared.restored.Wanted.{Wanted}
use Rattle.resume.specs.declared.fault.ResumeFault.{ResumeFault}
use Rattle.resume.specs.declared.fault.ResumeFault.TheVariants.{Ended, OtherTarget, OtherSalt, OtherKind, Limit, Foreign, NoMemory}

-- a run may go on behind what is listed: the next segment's number isn't past the last, nor can its discontinuities' be, and no
-- more segments are listed than a run goes on behind
pub record IsWithin (l : Listing) : Type 0 where
  pub next : l.sequence + length l.entries ≤ LAST_SEGMENT
  pub discontinuities : l.discontinuity_sequence + length l.entries ≤ LAST_SEGMENT
  pub few : length l.entries ≤ MOST_EARLIER

-- Why the run doesn't go on from it, of several reasons the first in this order: it has ended; it has another target duration;
-- another salt; it is of another kind; no more numbers are left.
abbrev pub IsRefused : Wanted → Listing → ResumeFault → Type 0
IsRefused wanted l Ended = l.ended ≡ true
IsRefused wanted l OtherTarget = (l.ended ≡ false) × (l.target ≢ wanted.target)
IsRefused wanted l OtherSalt = (l.ended ≡ false) × (l.target ≡ wanted.target) × (l.salt ≢ wanted.salt)
IsRefused wanted l OtherKind =
    (l.ended ≡ false) × (l.target ≡ wanted.target) × (l.salt ≡ wanted.salt) × (l.event ≢ is_event wanted.kind)
IsRefused wanted l Limit =
    (l.ended ≡ false) × (l.target ≡ wanted.target) × (l.salt ≡ wanted.salt) × (l.event ≡ is_event wanted.kind) × ¬ IsWithin l
IsRefused wanted l Foreign = ⊥
IsRefused wanted l NoMemory = ⊥

-- it is as the run wants it
pub record IsAsWanted (wanted : Wanted) (l : Listing) : Type 0 where
  pub goes_on : l.ended ≡ false
  pub target : l.target ≡ wanted.target
  pub salt : l.salt ≡ wanted.salt
  pub kind : l.event ≡ is_event wanted.kind
  pub within : IsWithin l
