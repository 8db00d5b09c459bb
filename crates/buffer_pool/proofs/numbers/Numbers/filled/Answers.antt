-- `numbers::Numbers::filled` meets its contract. Assumes nothing.
-- The check finds this alone; without it no fact refuses the edit record_keeps_no_more_than_the_frame.
use borrow.Author.Rules.{rules}
use Rattle.buffer_pool.proofs.numbers.Numbers.filled.Goals as goal

pub returns : goal.returns
returns c = search rules
