use Rattle.counting_word.proofs.MarkedBlocks.{no_marked_block_is_given}
use Rattle.counting_word.proofs.laws.no_marked_block_is_given.Goals as goal

pub returns : goal.returns
returns c = no_marked_block_is_given
