-- `inner_memory::copy_between` meets its contract. The first i bytes are copied. Assumes nothing.
use borrow.Author.Rules.{rules}
use Rattle.buffer_pool.proofs.ByteLaws.{copied_none, copied_more}
use Rattle.buffer_pool.proofs.inner_memory.copy_between.Goals as goal

pub loop-i-init : goal.loop-i-init
loop-i-init c = search (copied_none, rules)

pub loop-i-preserved : goal.loop-i-preserved
loop-i-preserved c = search (copied_more, rules)
