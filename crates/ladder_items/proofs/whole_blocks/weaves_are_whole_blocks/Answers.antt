use Rattle.ladder_items.proofs.WholeBlocks.{weaves-whole}
use Rattle.ladder_items.proofs.whole_blocks.weaves_are_whole_blocks.Goals as goal

pub returns : goal.returns
returns c = weaves-whole
