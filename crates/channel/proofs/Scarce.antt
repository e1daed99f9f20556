-- What memory is wanted for.
use Rattle.std.proofs.Common.{◌≡◌, ◌⊎◌, ℕ, ◌<◌, List, length, refl, ap, subst, arith, inl, inr}
use Rattle.std.proofs.lemmas.List.{length-map}
use Rattle.folder.specs.declared.read_fault.FolderReadFault.{FolderReadFault}
use Rattle.folder.specs.declared.read_fault.FolderReadFault.TheVariants.{Unread as FolderUnread, NoMemory as FolderNoMemory}
use Rattle.ladder_items.specs.Ladder.{RenditionValue}
use Rattle.channel_folder.specs.Scans.{MayHoldUnfinished}
use Rattle.channel.specs.Faults.{of_reading}
use Rattle.channel.specs.Reading.{names_of}
use Rattle.channel.specs.declared.fault.ResumingFault.TheVariants.{NoMemory}

-- some names are those of some renditions
wants-for : (Wants : Type 0) (Lists : List (List ℕ) → Type 0) (renditions : List RenditionValue) (count : ℕ) (names : List (List ℕ))
    → names ≡ names_of renditions → length names ≡ count → Wants ⊎ (0 < count) ⊎ MayHoldUnfinished Lists names
    → Wants ⊎ (0 < length renditions) ⊎ MayHoldUnfinished Lists (names_of renditions)
wants-for Wants Lists renditions count names same each (inl wants) = inl wants
wants-for Wants Lists renditions count names same each (inr (inl some)) =
    inr (inl (omega (arith, some, each, ap length same, length-map renditions (λ r. r.name))))
wants-for Wants Lists renditions count names same each (inr (inr held)) = inr (inr (subst (MayHoldUnfinished Lists) same held))

-- the files of a folder weren't found for want of memory
pub scan-wants : (Wants : Type 0) (Lists : List (List ℕ) → Type 0) (renditions : List RenditionValue) (count : ℕ) (names : List (List ℕ)) (why : FolderReadFault)
    → names ≡ names_of renditions → length names ≡ count → (why ≡ FolderNoMemory → Wants ⊎ (0 < count) ⊎ MayHoldUnfinished Lists names)
    → of_reading why ≡ NoMemory → Wants ⊎ (0 < length renditions) ⊎ MayHoldUnfinished Lists (names_of renditions)
scan-wants Wants Lists renditions count names FolderUnread same each wants is = cc is
scan-wants Wants Lists renditions count names FolderNoMemory same each wants is = wants-for Wants Lists renditions count names same each (wants refl)
