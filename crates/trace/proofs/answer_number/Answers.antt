-- `answer_number` meets its contract. Assumes nothing.
-- The check finds this alone; without it no fact refuses the edits accepted_told_as_refused and refused_told_as_one_less.
use borrow.Author.Rules.{rules}
use Rattle.trace.proofs.answer_number.Goals as goal

pub returns-in-Ok : goal.returns-in-Ok
returns-in-Ok c = search rules

pub returns-in-Err : goal.returns-in-Err
returns-in-Err c = search rules
