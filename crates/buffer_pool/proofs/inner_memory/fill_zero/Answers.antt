-- `inner_memory::fill_zero` meets its contract. Assumes nothing.
use Rattle.buffer_pool.proofs.ByteLaws.{zeroed_over}
use borrow.Author.Rules.{rules}
use Rattle.buffer_pool.proofs.inner_memory.fill_zero.Goals as goal

pub returns : goal.returns
returns c = search (zeroed_over, c.fill.ensures.after (λ y e. e), rules)
