-- What the thread that reads an input tells, message by message.
use Rattle.std.specs.Prelude.{◌≡◌, ℕ, ◌<◌, List, [], ◌∷◌, ◌++◌, length, take, drop, Bool, true, false, not, ◌&&◌, Option, None, IfSome}
use Rattle.std.specs.Option.{option_map}
use Rattle.std.specs.Io.KnownBytes.{Consumes}
use Rattle.read_ahead.specs.declared.message.Message.{Message}
use Rattle.read_ahead.specs.declared.message.Message.TheVariants.{Asked, Opened, Bytes, End, Failed, Refused}

module _ {I : Type 0} where
  abbrev pub bytes_of : Message I → List ℕ
  bytes_of (Asked s n) = []
  bytes_of (Opened o) = []
  bytes_of (Bytes block) = block.items
  bytes_of End = []
  bytes_of Failed = []
  bytes_of (Refused r) = []

  -- nothing is told behind it
  abbrev pub is_last : Message I → Bool
  is_last (Asked s n) = false
  is_last (Opened o) = false
  is_last (Bytes block) = false
  is_last End = true
  is_last Failed = true
  is_last (Refused r) = true

  -- what the input holds that is asked for; holds: what each does
  abbrev pub held_by : (I → Option (List ℕ)) → Message I → Option (List ℕ)
  held_by holds (Asked s n) = holds s.value
  held_by holds (Opened o) = None
  held_by holds (Bytes block) = None
  held_by holds End = None
  held_by holds Failed = None
  held_by holds (Refused r) = None

  -- the blocks, joined
  abbrev pub joined : List (Message I) → List ℕ
  joined [] = []
  joined (message ∷ more) = bytes_of message ++ joined more

  -- no end was told, no failure and no refusal
  abbrev pub goes_on : List (Message I) → Bool
  goes_on [] = true
  goes_on (message ∷ more) = not (is_last message) && goes_on more

  -- all bytes of the input that was asked for, where it tells them
  abbrev pub held : (I → Option (List ℕ)) → List (Message I) → Option (List ℕ)
  held holds [] = None
  held holds (message ∷ more) = held_by holds message

  -- those of them that weren't told yet
  abbrev pub untold : (I → Option (List ℕ)) → List (Message I) → Option (List ℕ)
  untold holds told = option_map (λ xs. drop (length (joined told)) xs) (held holds told)

  -- the input that is asked for may be refused; refuses: which may
  abbrev pub RefusedBy : (I → Type 0) → Message I → Type 0
  RefusedBy refuses (Asked s n) = refuses s.value
  RefusedBy refuses (Opened o) = ⊥
  RefusedBy refuses (Bytes block) = ⊥
  RefusedBy refuses End = ⊥
  RefusedBy refuses Failed = ⊥
  RefusedBy refuses (Refused r) = ⊥

  abbrev pub MayRefuse : (I → Type 0) → List (Message I) → Type 0
  MayRefuse refuses [] = ⊥
  MayRefuse refuses (message ∷ more) = RefusedBy refuses message

  -- the message asks for this input
  abbrev pub AsksFor : I → Message I → Type 0
  AsksFor input (Asked s n) = s.value ≡ input
  AsksFor input (Opened o) = ⊥
  AsksFor input (Bytes block) = ⊥
  AsksFor input End = ⊥
  AsksFor input Failed = ⊥
  AsksFor input (Refused r) = ⊥

  abbrev pub IsFirst : I → List (Message I) → Type 0
  IsFirst input [] = ⊥
  IsFirst input (message ∷ more) = AsksFor input message

  -- the message is for the thread of the input of this number
  abbrev pub IsFor : ℕ → Message I → Type 0
  IsFor number (Asked s n) = n.value ≡ number
  IsFor number (Opened o) = ⊥
  IsFor number (Bytes block) = ⊥
  IsFor number End = ⊥
  IsFor number Failed = ⊥
  IsFor number (Refused r) = ⊥

  -- the first one is
  abbrev pub IsNumbered : ℕ → List (Message I) → Type 0
  IsNumbered number [] = ⊥
  IsNumbered number (message ∷ more) = IsFor number message

  -- this message was told last
  abbrev pub EndsWith : Message I → List (Message I) → Type 0
  EndsWith message told = (before : List (Message I)) × (told ≡ before ++ message ∷ [])

  -- this input, of this number, was asked for, and nothing else was told
  pub record Asks (told : List (Message I)) (number : ℕ) (input : I) : Type 0 where
    pub one : length told ≡ 1
    pub none : joined told ≡ []
    pub going : goes_on told ≡ true
    pub same : (holds : I → Option (List ℕ)) → held holds told ≡ holds input
    pub first : IsFirst input told
    pub numbered : IsNumbered number told

  -- an input that was opened, and of which more may be told
  pub record IsOpen (told : List (Message I)) : Type 0 where
    pub some : 1 < length told
    pub going : goes_on told ≡ true

  -- the end may be told: all that the input holds was told
  pub record MayEnd (holds : I → Option (List ℕ)) (before : List (Message I)) : Type 0 where
    pub opened : IsOpen before
    pub all : IfSome (held holds before) (λ xs. xs ≡ joined before)

  -- a block may be told: with those before it, it begins what the input holds
  pub record MayTell (holds : I → Option (List ℕ)) (before : List (Message I)) (block : List ℕ) : Type 0 where
    pub opened : IsOpen before
    pub some : 0 < length block
    pub next : IfSome (held holds before) (λ xs. take (length (joined before ++ block)) xs ≡ joined before ++ block)

  -- An input is asked for first, then it's opened or, where it may be, refused. The blocks, joined, begin what it holds. The end is told only where
  -- they are all, and nothing is told behind the end, a failure or a refusal.
  abbrev pub MayFollow : (I → Option (List ℕ)) → (I → Type 0) → List (Message I) → Message I → Type 0
  MayFollow holds refuses before (Asked s n) = before ≡ []
  MayFollow holds refuses before (Opened o) = length before ≡ 1
  MayFollow holds refuses before (Bytes block) = MayTell holds before block.items
  MayFollow holds refuses before End = MayEnd holds before
  MayFollow holds refuses before Failed = IsOpen before
  MayFollow holds refuses before (Refused r) = (length before ≡ 1) × MayRefuse refuses before

  -- all that a reader gave since it was opened was told
  pub record Tells (holds : I → Option (List ℕ)) (told : List (Message I)) (rest : Option (List ℕ)) : Type 0 where
    pub opened : IsOpen told
    pub all : Consumes (held holds told) rest (joined told)

  -- a block came behind what was told, and wasn't told itself
  pub record LeavesOut (holds : I → Option (List ℕ)) (told : List (Message I)) (rest : Option (List ℕ)) : Type 0 where
    pub block : List ℕ
    pub some : 0 < length block
    pub taken : Consumes (held holds told) rest (joined told ++ block)
