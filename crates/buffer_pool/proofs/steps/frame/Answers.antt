-- `steps::frame` meets its contract. Assumes nothing.
-- The check finds this alone; without it no fact refuses the edits frame_of_all_kept_bytes and frame_shown_at_the_start.
use borrow.Author.Rules.{rules}
use Rattle.buffer_pool.proofs.StepLaws.{frame_pool}
use Rattle.buffer_pool.proofs.steps.frame.Goals as goal

pub returns-in-Back : goal.returns-in-Back
returns-in-Back c = frame_pool c.args.n c.in-Back.is

pub returns-in-Alloc : goal.returns-in-Alloc
returns-in-Alloc c = search rules
