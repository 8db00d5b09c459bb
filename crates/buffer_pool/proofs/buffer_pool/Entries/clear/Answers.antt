-- `buffer_pool::Entries::clear` meets its contract. Assumes nothing.
-- The check finds this alone; without it no fact refuses the edit clear_leaves_lengths_of_one_code.
use borrow.Author.Rules.{rules}
use Rattle.buffer_pool.proofs.buffer_pool.Entries.clear.Goals as goal

pub returns : goal.returns
returns c = search rules
