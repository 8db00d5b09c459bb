-- `views::told` meets its contract. Assumes nothing.
-- The check finds this alone; without it no fact refuses the edit refused_write_told_as_done.
use borrow.Author.Rules.{rules}
use Rattle.buffer_pool.proofs.views.told.Goals as goal

pub returns : goal.returns
returns c = search rules
