-- `placing::finish_in_overflow` meets its contract. Assumes nothing.
use Rattle.buffer_pool.proofs.DecidingLaws.{overflow_short, overflow_fits}
use Rattle.buffer_pool.proofs.placing.finish_in_overflow.Goals as goal

pub returns-then-not-in_bounds : goal.returns-then-not-in_bounds
returns-then-not-in_bounds c = search overflow_short

pub returns : goal.returns
returns c = search overflow_fits
