-- What `seal` and `open` tell of a lack of memory.
use Rattle.std.proofs.Common.{◌≡◌, refl}
use Rattle.commands.specs.Told.{opening_of_reading, sealing_of}
use Rattle.commands.specs.declared.reading.ReadingFault.{ReadingFault}
use Rattle.commands.specs.declared.reading.ReadingFault.TheVariants as reading
use Rattle.commands.specs.declared.opening.OpeningFault.TheVariants as opening
use Rattle.commands.specs.declared.sealing.SealingFault.TheVariants as sealing

-- a lack of memory is told only of one
pub opening_of_reading-NoMemory : (why : ReadingFault) → opening_of_reading why ≡ opening.NoMemory → why ≡ reading.NoMemory
opening_of_reading-NoMemory reading.Unread told = cc
opening_of_reading-NoMemory reading.ReadLimit told = cc
opening_of_reading-NoMemory reading.NoMemory told = refl

pub sealing_of-NoMemory : (why : ReadingFault) → sealing_of why ≡ sealing.NoMemory → why ≡ reading.NoMemory
sealing_of-NoMemory reading.Unread told = cc
sealing_of-NoMemory reading.ReadLimit told = cc
sealing_of-NoMemory reading.NoMemory told = refl
