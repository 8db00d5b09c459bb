-- `placing::finish` meets its contract. Assumes nothing.
use Rattle.buffer_pool.proofs.DecidingLaws.{finish_pool}
use Rattle.buffer_pool.proofs.placing.finish.Goals as goal

pub returns-in-Back : goal.returns-in-Back
returns-in-Back c = search finish_pool
