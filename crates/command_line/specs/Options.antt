-- The options of the program's commands.
use Rattle.std.specs.Prelude.{◌≡◌, ℕ, ◌^◌, ◌-◌, true, List, [], ◌∷◌, ◌++◌, Option, Some, None, codes}
use Rattle.std.specs.Borrow.{Bor}
use Rattle.clap.specs.declared.builder.action.ArgAction.TheVariants.{SetTrue, Append}
use Rattle.clap.specs.declared.builder.command.Command.{Command}
use Rattle.clap.specs.declared.builder.command.Command.TheViews.{out-Command}
use Rattle.clap.specs.declared.builder.value_parser.ValueParser.TheVariants.{Unsigned}
use Rattle.clap.specs.Words.{App, Rule, Shape, app_of, new_app, new_rule, with_rule, with_subcommand}

-- an option with a value, `--NAME VALUE`
abbrev pub text_option : List ℕ → Rule
text_option name = record (new_rule name) { long = Some name; value_names = 1 }

-- one that has to be given
abbrev pub needed : Rule → Rule
needed rule = record rule { required = true }

-- one whose value is a number below 2^64
abbrev pub number_option : List ℕ → Rule
number_option name = record (text_option name) { parser = Some (Unsigned 0 (2 ^ 64 - 1)) }

-- one for which help shows a default
abbrev pub with_default : List ℕ → Rule → Rule
with_default value rule = record rule { defaults = value ∷ [] }

-- an option without a value
abbrev pub flag : List ℕ → Rule
flag name = record (new_rule name) { long = Some name; action = Some SetTrue }

-- a key and a vector
abbrev pub cipher_options : List Rule
cipher_options = needed (text_option (codes "key")) ∷ number_option (codes "seq") ∷ text_option (codes "iv") ∷ []

-- a command with options behind those that it has
abbrev pub with_options : App → List Rule → App
with_options app [] = app
with_options app (rule ∷ rules) = with_options (with_rule app rule) rules

-- a command got these options more, each for itself alone
pub record GetsOptions (old : Command) (rules : List Rule) (new : Command) : Type 0 where
  pub app : app_of new ≡ with_options (app_of old) rules
  pub globals : (out-Command new).has_globals ≡ (out-Command old).has_globals

-- an option for numbers, as a table of the program has it: its name, what it counts, what help says of it, and what stands for it
-- where it is absent
abbrev pub NumberOption : Type 0
NumberOption = Bor (List ℕ) × Bor (List ℕ) × Bor (List ℕ) × Option (Bor (List ℕ))

abbrev pub with_shown : Option (Bor (List ℕ)) → Rule → Rule
with_shown None rule = rule
with_shown (Some value) rule = with_default value.now rule

abbrev pub numbered : NumberOption → Rule
numbered option = with_shown option.3 (number_option option.0.now)

-- a rendition
abbrev pub rendition_options : List Rule
rendition_options =
    needed (text_option (codes "codecs"))
    ∷ needed (text_option (codes "size"))
    ∷ needed (text_option (codes "keys"))
    ∷ with_default (codes "v") (text_option (codes "name"))
    ∷ []

-- vectors, and which segments are listed
abbrev pub form_options : List Rule
form_options = text_option (codes "salt") ∷ flag (codes "event") ∷ []

-- the numbers of a packager
abbrev pub packing_options : List Rule
packing_options =
    with_default (codes "6") (number_option (codes "target"))
    ∷ number_option (codes "segment")
    ∷ with_default (codes "5") (number_option (codes "window"))
    ∷ with_default (codes "3600") (number_option (codes "frame"))
    ∷ with_default (codes "900000") (number_option (codes "gap"))
    ∷ with_default (codes "1000000") (number_option (codes "most"))
    ∷ with_default (codes "1") (number_option (codes "period"))
    ∷ number_option (codes "program")
    ∷ []

-- the options of `one`
abbrev pub stream_options : List Rule
stream_options = rendition_options ++ form_options ++ packing_options

-- a word that stands alone, and has to be there
abbrev pub word : List ℕ → Rule
word name = record (new_rule name) { value_names = 1; required = true }

-- the options of `check`
abbrev pub check_options : List Rule
check_options = needed (text_option (codes "keys")) ∷ word (codes "playlist") ∷ []

-- the threads that seal, and reading ahead
abbrev pub pool_options : List Rule
pool_options =
    with_default (codes "4") (number_option (codes "workers"))
    ∷ with_default (codes "16") (number_option (codes "queue"))
    ∷ number_option (codes "batch")
    ∷ number_option (codes "stall")
    ∷ number_option (codes "ahead")
    ∷ []

-- one word or more, one for each rendition
abbrev pub entries : Rule
entries = record (word (codes "entries")) { range = Some (record { start_inclusive = 1; end_inclusive = 2 ^ 64 - 1 }); action = Some Append }

-- an option without a value, as a table of the program has it: its name, and what help says of it
abbrev pub FlagOption : Type 0
FlagOption = Bor (List ℕ) × Bor (List ℕ)

abbrev pub flagged : FlagOption → Rule
flagged option = flag option.0.now

-- what an earlier run left in the folder, what goes, and whether it is synced
abbrev pub folder_options : List Rule
folder_options = flag (codes "resume") ∷ flag (codes "remove") ∷ flag (codes "sync") ∷ []

-- the options of `pack`
abbrev pub ladder_options : List Rule
ladder_options = needed (text_option (codes "out")) ∷ folder_options ++ text_option (codes "metrics") ∷ pool_options ++ entries ∷ form_options ++ packing_options

-- a command of these options, of which none is for the commands below it
abbrev pub command_of : List ℕ → List Rule → Shape
command_of name rules = (with_options (new_app name) rules).top

-- a program got this command more
pub record GetsCommand (old : Command) (command : Shape) (new : Command) : Type 0 where
  pub app : app_of new ≡ with_subcommand (app_of old) command
  pub globals : (out-Command new).has_globals ≡ (out-Command old).has_globals

-- a program got this version
pub record GetsVersion (old : Command) (version : Bor (List ℕ)) (new : Command) : Type 0 where
  pub app : app_of new ≡ record { top = record (app_of old).top { has_version = true }; subs = (app_of old).subs }
  pub globals : (out-Command new).has_globals ≡ (out-Command old).has_globals
  pub version_is : (out-Command new).version ≡ Some version

-- the program before it has a version and a command: it shows its help where it is given no word
abbrev pub unversioned : App
unversioned = record { top = record (new_app (codes "tshls")).top { subcommand_required = true; arg_required_else_help = true }; subs = [] }

-- the program before it has a command: it has a version, and shows its help where it is given no word
abbrev pub bare : App
bare = record { top = record (new_app (codes "tshls")).top { has_version = true; subcommand_required = true; arg_required_else_help = true }; subs = [] }

-- the program with its commands
abbrev pub tshls : App
tshls =
    with_subcommand
    (with_subcommand
    (with_subcommand
    (with_subcommand (with_subcommand bare (command_of (codes "seal") cipher_options)) (command_of (codes "open") cipher_options))
    (command_of (codes "one") stream_options))
    (command_of (codes "pack") ladder_options))
    (command_of (codes "check") check_options)
