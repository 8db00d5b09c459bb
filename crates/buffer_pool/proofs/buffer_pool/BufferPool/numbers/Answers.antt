-- `buffer_pool::BufferPool::numbers` meets its contract. Assumes nothing.
-- The check finds this alone; without it no fact refuses the edits numbers_of_another_overflow and numbers_without_reservation.
use borrow.Author.Rules.{rules}
use Rattle.buffer_pool.proofs.buffer_pool.BufferPool.numbers.Goals as goal

pub returns : goal.returns
returns c = search rules
