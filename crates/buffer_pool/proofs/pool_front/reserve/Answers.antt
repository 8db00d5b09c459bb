-- `pool_front::reserve` meets its contract. Assumes nothing.
use Rattle.buffer_pool.proofs.FrontLaws.{front_keeps, front_leaves, front_drops, front_drops_leaves}
use Rattle.buffer_pool.proofs.pool_front.reserve.Goals as goal

pub returns-then-front_fits : goal.returns-then-front_fits
returns-then-front_fits c = search front_keeps

pub returns-then-f-last : goal.returns-then-f-last
returns-then-f-last c = search front_leaves

pub returns-then-in_bounds : goal.returns-then-in_bounds
returns-then-in_bounds c = search front_drops

pub returns : goal.returns
returns c = search front_drops_leaves
