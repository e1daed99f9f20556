use Rattle.std.proofs.Common.{◌++◌, rules}
use Rattle.commands.proofs.KeyBytes.{no-key-front}
use Rattle.commands.proofs.key_word.read_word.Goals as goal

pub returns-clause-bad : goal.returns-clause-bad
returns-clause-bad g c = λ n is. (
  cc is,
  record {
    name = c.in-Some.name.now;
    named = search rules;
    holding = (
      c.in_ok-bytes.bytes.items ++ c.in_ok-bytes.ensures.ok.rest,
      c.in_ok-bytes.ensures.ok.given,
      no-key-front c.in_ok-bytes.bytes.items c.in_ok-bytes.ensures.ok.rest (search rules) c.in_ok-bytes.ensures.ok.whole,
    );
  },
)
