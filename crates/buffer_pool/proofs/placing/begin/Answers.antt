-- `placing::begin` meets its contract. Assumes nothing.
use Rattle.buffer_pool.proofs.ResetLaws.{begins_reset, begins_here}
use Rattle.buffer_pool.proofs.placing.begin.Goals as goal

pub returns-then-resets : goal.returns-then-resets
returns-then-resets c = search begins_reset

pub returns : goal.returns
returns c = search begins_here
