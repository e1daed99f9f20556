-- What help shows of options.
use Rattle.std.specs.Prelude.{◌≡◌, List, [], ◌∷◌, ℕ, Option, Some, None, map, option_map, codes}
use Rattle.clap.specs.declared.builder.arg.Arg.{Arg}
use Rattle.clap.specs.Words.{items_of}

-- it calls the option's value so, and says this of it
pub record IsShown (value help : List ℕ) (option : Arg) : Type 0 where
  pub value_is : map (λ t. t.now) (items_of option.val_names) ≡ value ∷ []
  pub help_is : option_map (λ t. t.now) option.help ≡ Some help

-- an option for numbers: its name, what it counts, what help says of it, and the default that it shows
pub record NumberText : Type 0 where
  pub name : List ℕ
  pub value : List ℕ
  pub help : List ℕ
  pub default : Option (List ℕ)

-- the numbers of a packager
abbrev pub packing_texts : List NumberText
packing_texts =
    record {
      name = codes "target";
      value = codes "SECONDS";
      help = codes "The target duration, 1 to 3600";
      default = Some (codes "6");
    }
    ∷ record {
      name = codes "segment";
      value = codes "SECONDS";
      help = codes "Cut at the first key frame so long after a segment's start, 1 to the target [default: the target]";
      default = None;
    }
    ∷ record {
      name = codes "window";
      value = codes "SEGMENTS";
      help = codes "The least number of segments that a playlist lists, 1 to 10000";
      default = Some (codes "5");
    }
    ∷ record {
      name = codes "frame";
      value = codes "TICKS";
      help = codes "What the last frame before a jump of time lasts, 1 to 900000";
      default = Some (codes "3600");
    }
    ∷ record {
      name = codes "gap";
      value = codes "TICKS";
      help = codes "How far time may step without being a jump, 1 to 4294967295";
      default = Some (codes "900000");
    }
    ∷ record {
      name = codes "most";
      value = codes "PACKETS";
      help = codes "The most packets of a segment, 1 to 1000000";
      default = Some (codes "1000000");
    }
    ∷ record {
      name = codes "period";
      value = codes "SEGMENTS";
      help = codes "How many segments in a row a key seals, from 1 on";
      default = Some (codes "1");
    }
    ∷ record {
      name = codes "program";
      value = codes "NUMBER";
      help = codes "The program to pack, 1 to 65535 [default: the first]";
      default = None;
    }
    ∷ []

-- those of the threads that seal, and of reading ahead
abbrev pub pool_texts : List NumberText
pool_texts =
    record {
      name = codes "workers";
      value = codes "NUMBER";
      help = codes "How many threads seal, 1 to 64";
      default = Some (codes "4");
    }
    ∷ record {
      name = codes "queue";
      value = codes "SEGMENTS";
      help = codes "How many segments may be on their way, 1 to 256";
      default = Some (codes "16");
    }
    ∷ record {
      name = codes "batch";
      value = codes "SEGMENTS";
      help = codes "With how many closed segments a round of sealing begins at the latest, 1 to 256; with fewer where no stream has more to read [default: the queue]";
      default = None;
    }
    ∷ record {
      name = codes "stall";
      value = codes "SECONDS";
      help = codes "A stream that gives nothing for so long can't be read, 1 to 86400 [default: it is waited for]";
      default = None;
    }
    ∷ record {
      name = codes "ahead";
      value = codes "MIB";
      help = codes "How much is read ahead of all streams together, 1 to 65536 [default: 32 for each, 8 for a plain file]";
      default = None;
    }
    ∷ []

-- how the folder is dealt with: the names of options without values, and what help says of them
abbrev pub folder_texts : List (List ℕ × List ℕ)
folder_texts =
    (codes "resume", codes "Go on from the playlists in DIR, where there are any: the next numbers, behind a discontinuity")
    ∷ (codes "remove", codes "Remove segments that no player can want any more: for a live ladder, whose streams come as fast as they play")
    ∷ (codes "sync", codes "Wait until each file is on the disk: a machine that loses its power then keeps all that was listed")
    ∷ []
