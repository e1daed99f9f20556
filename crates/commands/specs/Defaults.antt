-- What stands for a word that isn't given.
use Rattle.std.specs.Prelude.{ℕ, List, Option, codes}
use Rattle.std.specs.Option.{unwrap_or}
use Rattle.commands.specs.declared.numbers.NumberWords.{NumberWords}
use Rattle.commands.specs.declared.numbers.Numbers.{Numbers}

-- six seconds for the target, and the target for a segment's length
abbrev pub numbers_of : NumberWords → Numbers
numbers_of words = record {
  target = unwrap_or words.target 6;
  segment = unwrap_or words.segment (unwrap_or words.target 6);
  window = unwrap_or words.window 5;
  frame = unwrap_or words.frame 3600;
  gap = unwrap_or words.gap 900000;
  most = unwrap_or words.most 1000000;
  period = unwrap_or words.period 1;
  program = words.program;
}

abbrev pub name_of : Option (List ℕ) → List ℕ
name_of given = unwrap_or given (codes "v")
