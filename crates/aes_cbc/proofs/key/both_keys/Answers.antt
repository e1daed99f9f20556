use Rattle.std.proofs.Common.{subst}
use Rattle.aes_cbc.specs.Block.{IsBlock}
use Rattle.aes_cbc.specs.Pairs.{ArePair}
use Rattle.aes_cbc.proofs.key.both_keys.Goals as goal

pub returns : goal.returns
returns c = record {
  both = subst (λ a. ArePair c.joined.result a c.args.second.now) c.first.view_is (subst (ArePair c.joined.result _) c.second.view_is c.joined.ensures);
  first = subst IsBlock c.first.view_is c.first.invariant.block;
  second = subst IsBlock c.second.view_is c.second.invariant.block;
}
