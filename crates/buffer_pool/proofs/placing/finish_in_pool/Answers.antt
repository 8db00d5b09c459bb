-- `placing::finish_in_pool` meets its contract. Assumes nothing.
use Rattle.buffer_pool.proofs.DecidingLaws.{finished_in_pool}
use Rattle.buffer_pool.proofs.placing.finish_in_pool.Goals as goal

pub returns : goal.returns
returns c = search finished_in_pool
