-- The commands as help shows them, each with its options.
use Rattle.std.specs.Prelude.{◌≡◌, List, [], ◌∷◌, ◌++◌, ◌&&◌, ℕ, Bool, true, false, not, Option, Some, None, map, option_map, codes}
use Rattle.clap.specs.declared.builder.arg.Arg.{Arg}
use Rattle.clap.specs.declared.builder.command.Command.TheViews.{out-Command}
use Rattle.clap.specs.Words.{Rule, app_of, items_of, new_app, rule_of}
use Rattle.command_line.specs.declared.offered.OfferedCommand.{OfferedCommand}
use Rattle.command_line.specs.Options.{FlagOption, NumberOption, entries, flag, flagged, needed, number_option, numbered, text_option, with_default, word}
use Rattle.command_line.specs.Shown.{NumberText, folder_texts, packing_texts, pool_texts}

-- an option as a command takes it, and as help shows it: what its value is called, and what is said of it
pub record Offered : Type 0 where
  pub rule : Rule
  pub is_global : Bool
  pub values : List (List ℕ)
  pub help : Option (List ℕ)

abbrev pub offered : Arg → Offered
offered option = record {
  rule = rule_of option;
  is_global = option.global;
  values = map (λ t. t.now) (items_of option.val_names);
  help = option_map (λ t. t.now) option.help;
}

-- one with a value, and one without, each for its command alone
abbrev pub valued : Rule → List ℕ → List ℕ → Offered
valued rule value help = record { rule = rule; is_global = false; values = value ∷ []; help = Some help }

abbrev pub unvalued : Rule → List ℕ → Offered
unvalued rule help = record { rule = rule; is_global = false; values = []; help = Some help }

-- as a table of the program has them
abbrev pub number_offered : NumberOption → Offered
number_offered option = valued (numbered option) option.1.now option.2.now

abbrev pub flag_offered : FlagOption → Offered
flag_offered option = unvalued (flagged option) option.1.now

abbrev pub defaulted : Option (List ℕ) → Rule → Rule
defaulted None rule = rule
defaulted (Some value) rule = with_default value rule

abbrev pub text_offered : NumberText → Offered
text_offered text = valued (defaulted text.default (number_option text.name)) text.value text.help

-- to some options these were added, in this order
pub record Offers (old : List Arg) (more : List Offered) (new : List Arg) : Type 0 where
  pub all : map offered new ≡ map offered old ++ more

-- what help shows of the options of `seal` and `open`
abbrev pub cipher_offered : List Offered
cipher_offered =
    valued (needed (text_option (codes "key"))) (codes "HEX") (codes "The key: 32 hex digits, or @FILE, which holds its 16 bytes or those digits")
    ∷ valued (number_option (codes "seq")) (codes "NUMBER") (codes "The segment's number, which gives the vector")
    ∷ valued (text_option (codes "iv")) (codes "HEX") (codes "The vector itself: 32 hex digits")
    ∷ []

-- .. of a rendition
abbrev pub rendition_offered : List Offered
rendition_offered =
    valued (needed (text_option (codes "codecs"))) (codes "CODECS") (codes "The codecs, as a master playlist lists them")
    ∷ valued (needed (text_option (codes "size"))) (codes "WIDTHxHEIGHT") (codes "The width and the height of the pictures, 1 to 16384 pixels each")
    ∷ valued (needed (text_option (codes "keys"))) (codes "KEY[+KEY..]") (codes "The keys, 32 hex digits or @FILE each, 1 to 4096 of them")
    ∷ valued (with_default (codes "v") (text_option (codes "name"))) (codes "NAME") (codes "The name of the rendition")
    ∷ []

-- .. of vectors, and of which segments are listed
abbrev pub form_offered : List Offered
form_offered =
    valued (text_option (codes "salt")) (codes "HEX")
    (codes "A salt of the segments' vectors, 32 hex digits: each is then the salt xor the number, and is listed")
    ∷ unvalued (flag (codes "event")) (codes "List all segments, as those of an event")
    ∷ []

-- .. of `one`
abbrev pub stream_offered : List Offered
stream_offered = rendition_offered ++ form_offered ++ map text_offered packing_texts

-- .. of `check`
abbrev pub check_offered : List Offered
check_offered =
    valued (needed (text_option (codes "keys"))) (codes "KEY[+KEY..]") (codes "The keys of the rendition, 32 hex digits or @FILE each")
    ∷ valued (word (codes "playlist")) (codes "PLAYLIST") (codes "The media playlist; its segments lie in the same folder")
    ∷ []

-- .. of `pack`: the folder, the file of metrics, and the entries
abbrev pub out_offered : List Offered
out_offered = valued (needed (text_option (codes "out"))) (codes "DIR") (codes "The folder that the files are written to, which has to be there") ∷ []

abbrev pub metrics_offered : List Offered
metrics_offered =
    valued (text_option (codes "metrics")) (codes "FILE")
    (codes "A file that is replaced every five seconds and at the end: the run's numbers, in the text format of Prometheus")
    ∷ []

abbrev pub entries_offered : List Offered
entries_offered =
    valued entries (codes "NAME:CODECS:WxH:KEY[+KEY..]:PATH")
    (codes "A rendition: its name, codecs, size, keys and the path of its stream, with a colon between")
    ∷ []

abbrev pub folder_offered : List Offered
folder_offered = map (λ text. unvalued (flag text.0) text.1) folder_texts

abbrev pub ladder_offered : List Offered
ladder_offered =
    out_offered ++ folder_offered ++ metrics_offered ++ map text_offered pool_texts ++ entries_offered ++ form_offered ++ map text_offered packing_texts

-- each is for its command alone
abbrev pub all_alone : List Offered → Bool
all_alone [] = true
all_alone (option ∷ options) = not option.is_global && all_alone options

-- a command of this name, of which help says this and shows these faults and options
pub record IsOffered (name about faults : List ℕ) (options : List Offered) (made : OfferedCommand) : Type 0 where
  pub app : app_of made.bare ≡ new_app name
  pub local : (out-Command made.bare).has_globals ≡ false
  pub about_is : option_map (λ t. t.now) (out-Command made.bare).about ≡ Some about
  pub faults_are : option_map (λ t. t.now) (out-Command made.bare).after_help ≡ Some faults
  pub options_are : map offered made.options.items ≡ options
  pub alone : all_alone options ≡ true
