-- `pool_back::try_clear_tail_unchecked` meets its contract. Assumes nothing.
use Rattle.buffer_pool.proofs.BackLaws.{clearable_drops, no_tail, tail_short, tail_cleared_lem}
use borrow.Author.Rules.{rules}
use Rattle.buffer_pool.proofs.pool_back.try_clear_tail_unchecked.Goals as goal

pub returns-then-trailing-eq0 : goal.returns-then-trailing-eq0
returns-then-trailing-eq0 c = search no_tail

pub tail_start-start-requires : goal.tail_start-start-requires
tail_start-start-requires c = search (clearable_drops, rules)

pub returns-then-not-in_bounds : goal.returns-then-not-in_bounds
returns-then-not-in_bounds c = search tail_short

pub overflow_sub-left : goal.overflow_sub-left
overflow_sub-left c = search (clearable_drops, rules)

pub returns : goal.returns
returns c = search tail_cleared_lem
