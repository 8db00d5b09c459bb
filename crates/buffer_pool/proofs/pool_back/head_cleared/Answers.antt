-- `pool_back::head_cleared` meets its contract. Assumes nothing.
-- The check finds this alone; without it no fact refuses the edit boundary_not_moved.
use Rattle.buffer_pool.proofs.BackLaws.{boundary_moves}
use Rattle.buffer_pool.proofs.pool_back.head_cleared.Goals as goal

pub returns-then-back_start-f : goal.returns-then-back_start-f
returns-then-back_start-f c = search boundary_moves
