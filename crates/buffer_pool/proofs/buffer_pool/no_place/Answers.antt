-- `buffer_pool::no_place` meets its contract. Assumes nothing.
-- The check finds this alone; without it no fact refuses the edit refused_view_not_empty.
use borrow.Author.Rules.{rules}
use Rattle.buffer_pool.proofs.buffer_pool.no_place.Goals as goal

pub returns : goal.returns
returns c = search rules
