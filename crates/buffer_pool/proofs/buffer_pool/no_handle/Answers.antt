-- `buffer_pool::no_handle` meets its contract. Assumes nothing.
-- The check finds this alone; without it no fact refuses the edit no_handle_has_a_slot.
use borrow.Author.Rules.{rules}
use Rattle.buffer_pool.proofs.buffer_pool.no_handle.Goals as goal

pub returns : goal.returns
returns c = search rules
