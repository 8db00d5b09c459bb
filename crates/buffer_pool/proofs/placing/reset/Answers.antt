-- `placing::reset` meets its contract. Assumes nothing.
use Rattle.buffer_pool.proofs.ResetLaws.{reset_pool}
use Rattle.buffer_pool.proofs.placing.reset.Goals as goal

pub returns-in-Back : goal.returns-in-Back
returns-in-Back c = search reset_pool
