-- `inner_memory::move_up` meets its contract. The bytes from the i-th on are moved. Assumes nothing.
use borrow.Author.Rules.{rules}
use Rattle.buffer_pool.proofs.ByteLaws.{up_none, up_more, up_all}
use Rattle.buffer_pool.proofs.inner_memory.move_up.Goals as goal

pub loop-i-init : goal.loop-i-init
loop-i-init c = search (up_none, rules)

pub loop-i-preserved : goal.loop-i-preserved
loop-i-preserved c = search (up_more, rules)

pub returns : goal.returns
returns c = search (up_all, rules)
