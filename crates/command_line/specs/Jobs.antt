-- The job that the words of a command line ask for.
use Rattle.std.specs.Prelude.{◌≡◌, ◌⊎◌, ℕ, Bool, true, List, Option, Some, None, option_map, codes}
use Rattle.std.specs.String.{string_bytes}
use Rattle.clap.specs.declared.parser.matches.Found.{Found}
use Rattle.ladder_items.specs.Ladder.{Ladder}
use Rattle.clap.specs.Words.{Row, Text, first_value, rows_of, subcommand_of, takes}
use Rattle.commands.specs.declared.check_options.CheckOptions.{CheckOptions}
use Rattle.commands.specs.declared.cipher.CipherOptions.{CipherOptions}
use Rattle.commands.specs.declared.numbers.NumberWords.{NumberWords}
use Rattle.commands.specs.declared.pool.PoolWords.{PoolWords}
use Rattle.commands.specs.Defaults.{name_of, numbers_of}
use Rattle.commands.specs.Hex.{chosen_vector}
use Rattle.commands.specs.KeyFiles.{TellKeys, TellsKey}
use Rattle.commands.specs.KeyLists.{key_texts}
use Rattle.commands.specs.LadderOptions.{AreOptionsOf}
use Rattle.commands.specs.Pools.{pool_of}
use Rattle.commands.specs.Settings.{IsReadLadderOf}
use Rattle.command_line.specs.declared.job.Job.{Job}
use Rattle.command_line.specs.declared.job.Job.TheVariants.{Stream, Ladder as Packing}
use Rattle.command_line.specs.declared.job.LadderJob.{LadderJob}
use Rattle.command_line.specs.declared.job.StreamJob.{StreamJob}
use Rattle.command_line.specs.declared.job.StreamJob.TheVariants.{Seal, Open, One, Check}
use Rattle.command_line.specs.Options.{tshls}
use Rattle.command_line.specs.Words.{AreNumberWords, ArePoolWords, IsFlagOf, IsNumberOf, given_text, text_of, texts_of}

-- What files may give under a path.
abbrev pub Gives : Type 1
Gives = List ℕ → List ℕ → Type 0

-- a key and a vector of what was found for the options of `seal` or `open`
pub record AreCipherOptions (gives : Gives) (found : Found) (options : CipherOptions) : Type 0 where
  pub key_is : TellsKey gives (text_of found (codes "key")) options.key
  pub seq : Option ℕ
  pub seq_is : IsNumberOf found (codes "seq") seq
  pub vector_is : chosen_vector seq (first_value found (codes "iv")) ≡ Some options.vector

-- the settings of a rendition, of what was found for the options of `one`
pub record AreSettings (gives : Gives) (found : Found) (made : Ladder) : Type 0 where
  pub event : Bool
  pub event_is : IsFlagOf found (codes "event") event
  pub numbers : NumberWords
  pub numbers_are : AreNumberWords found numbers
  pub made_is : IsReadLadderOf gives (record {
    name = name_of (given_text found (codes "name"));
    codecs = text_of found (codes "codecs");
    size = text_of found (codes "size");
    keys = text_of found (codes "keys");
    salt = first_value found (codes "salt");
    event = event;
  }) (numbers_of numbers) made

-- the keys and the playlist of what was found for the options of `check`
pub record AreCheckOptions (gives : Gives) (found : Found) (options : CheckOptions) : Type 0 where
  pub keys_are : TellKeys gives (key_texts (text_of found (codes "keys"))) options.keys.items
  pub playlist_is : string_bytes options.playlist ≡ text_of found (codes "playlist")

-- a ladder and its folder, of what was found for the options of `pack`
pub record IsLadderJob (gives : Gives) (found : Found) (job : LadderJob) : Type 0 where
  pub event : Bool
  pub event_is : IsFlagOf found (codes "event") event
  pub numbers : NumberWords
  pub numbers_are : AreNumberWords found numbers
  pub pool : PoolWords
  pub pool_is : ArePoolWords found pool
  pub options_are : AreOptionsOf gives (record {
    entries = texts_of found (codes "entries");
    salt = first_value found (codes "salt");
    event = event;
    numbers = numbers_of numbers;
    pool = pool_of pool;
  }) job.options
  pub folder_is : job.folder.now ≡ text_of found (codes "out")
  pub resumes_is : IsFlagOf found (codes "resume") job.resumes
  pub removes_is : IsFlagOf found (codes "remove") job.removes
  pub syncs_is : IsFlagOf found (codes "sync") job.syncs
  pub metrics_is : option_map (λ t. t.now) job.metrics ≡ first_value found (codes "metrics")

-- A command of this name was matched, and this was found for its options.
abbrev pub IsMatched : Option (Text × List Row) → Text → Found → Type 0
IsMatched matched name found = matched ≡ Some (name, rows_of found)

-- a job of the command that was matched, by its options
abbrev pub IsStreamJobOf : Gives → Option (Text × List Row) → StreamJob → Type 0
IsStreamJobOf gives matched (Seal options) = (found : Found) × IsMatched matched (codes "seal") found × AreCipherOptions gives found options
IsStreamJobOf gives matched (Open options) = (found : Found) × IsMatched matched (codes "open") found × AreCipherOptions gives found options
IsStreamJobOf gives matched (One settings) = (found : Found) × IsMatched matched (codes "one") found × AreSettings gives found settings
IsStreamJobOf gives matched (Check options) = (found : Found) × IsMatched matched (codes "check") found × AreCheckOptions gives found options

abbrev pub IsJobOf : Gives → Option (Text × List Row) → Job → Type 0
IsJobOf gives matched (Stream job) = IsStreamJobOf gives matched job
IsJobOf gives matched (Packing job) = (found : Found) × IsMatched matched (codes "pack") found × IsLadderJob gives found job

-- one of the program's commands was matched
abbrev pub IsCommand : Option (Text × List Row) → Type 0
IsCommand None = ⊥
IsCommand (Some (name, rows)) = (name ≡ codes "seal") ⊎ (name ≡ codes "open") ⊎ (name ≡ codes "one") ⊎ (name ≡ codes "pack") ⊎ (name ≡ codes "check")

-- Clap doesn't take the words of a line, or they name no command of the program, as those that ask for help.
abbrev pub IsNoCall : List Text → Type 0
IsNoCall words = takes tshls words ≡ true → IsCommand (subcommand_of tshls words) → ⊥
