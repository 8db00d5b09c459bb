-- `calls::resized` meets its contract. Assumes nothing.
-- The check finds this alone; without it no fact refuses the edit reservation_not_spent.
use Rattle.buffer_pool.proofs.LentLaws.{resized_left}
use Rattle.buffer_pool.proofs.calls.resized.Goals as goal

pub returns-in-Ok : goal.returns-in-Ok
returns-in-Ok c = resized_left c.args.p c.args.resizing c.in-Ok.r c.in-Ok.is
