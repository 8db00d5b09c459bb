-- `inner_memory::move_down` meets its contract. The first i bytes are moved. Assumes nothing.
use borrow.Author.Rules.{rules}
use Rattle.buffer_pool.proofs.ByteLaws.{moved_none, down_more}
use Rattle.buffer_pool.proofs.inner_memory.move_down.Goals as goal

pub loop-i-init : goal.loop-i-init
loop-i-init c = search (moved_none, rules)

pub loop-i-preserved : goal.loop-i-preserved
loop-i-preserved c = search (down_more, rules)
