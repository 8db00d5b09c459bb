-- `steps::reservation` meets its contract. Assumes nothing.
-- The check finds this alone; without it no fact refuses the edit fixed_start_code.
use Rattle.buffer_pool.proofs.StepLaws.{reservation_as}
use Rattle.buffer_pool.proofs.steps.reservation.Goals as goal

pub returns : goal.returns
returns c = search reservation_as
