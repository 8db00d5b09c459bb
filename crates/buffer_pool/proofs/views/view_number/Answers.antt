-- `views::view_number` meets its contract. Assumes nothing.
-- The check finds this alone; without it no fact refuses the edits refused_view_tells_nothing_code and shown_view_has_number.
use borrow.Author.Rules.{rules}
use Rattle.buffer_pool.proofs.views.view_number.Goals as goal

pub returns-in-Ok : goal.returns-in-Ok
returns-in-Ok c = search rules

pub returns-in-Err : goal.returns-in-Err
returns-in-Err c = search rules
