-- What metrics tell of a fault of the packager.
use Rattle.std.specs.Prelude.{ℕ, List, codes, Option, None, Some, slice_set}
use Rattle.commands.specs.declared.packing_fault.LadderPackingFault.{LadderPackingFault}
use Rattle.commands.specs.declared.packing_fault.LadderPackingFault.TheVariants as packing
use Rattle.ladder_items.specs.declared.fault.PackFault.{PackFault}
use Rattle.ladder_items.specs.declared.fault.PackFault.TheVariants.{Settings, Read, ReadLimit, NoProgram, NoStart, LongSegment, BigSegment, Limit, Outlet, NoMemory, Held}

-- the rendition that ended by it, counted from 0, if it is one's
abbrev pub rendition_of : PackFault → Option ℕ
rendition_of Settings = None
rendition_of (Read r) = Some r
rendition_of (ReadLimit r) = Some r
rendition_of (NoProgram r) = Some r
rendition_of (NoStart r) = Some r
rendition_of (LongSegment r n) = Some r
rendition_of (BigSegment r n) = Some r
rendition_of (Limit r) = Some r
rendition_of Outlet = None
rendition_of NoMemory = None
rendition_of (Held r n) = Some r

-- its name
abbrev pub name_of : PackFault → List ℕ
name_of Settings = codes "Settings"
name_of (Read r) = codes "Read"
name_of (ReadLimit r) = codes "ReadLimit"
name_of (NoProgram r) = codes "NoProgram"
name_of (NoStart r) = codes "NoStart"
name_of (LongSegment r n) = codes "LongSegment"
name_of (BigSegment r n) = codes "BigSegment"
name_of (Limit r) = codes "Limit"
name_of Outlet = codes "Outlet"
name_of NoMemory = codes "NoMemory"
name_of (Held r n) = codes "Held"

-- the names of faults by rendition, once this one is named too
abbrev pub named_at : List (Option (List ℕ)) → Option ℕ → List ℕ → List (Option (List ℕ))
named_at names None name = names
named_at names (Some r) name = slice_set names r (Some name)

-- the same of a fault that there may be
abbrev pub named_in : List (Option (List ℕ)) → Option PackFault → List (Option (List ℕ))
named_in names None = names
named_in names (Some fault) = named_at names (rendition_of fault) (name_of fault)

-- the fault of the packager by which a run ended, if it ended by one
abbrev pub last_fault : Option LadderPackingFault → Option PackFault
last_fault None = None
last_fault (Some (packing.Packing fault)) = Some fault
last_fault (Some packing.Unwritten) = None
last_fault (Some packing.NoMemory) = None
