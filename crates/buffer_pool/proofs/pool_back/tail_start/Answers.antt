-- `pool_back::tail_start` meets its contract. Assumes nothing.
use Rattle.buffer_pool.proofs.BackLaws.{after_front, after_back}
use Rattle.buffer_pool.proofs.pool_back.tail_start.Goals as goal

pub returns-then-d-back_len : goal.returns-then-d-back_len
returns-then-d-back_len c = search after_front

pub returns : goal.returns
returns c = search after_back
