-- `pool_back::try_clear_head` meets its contract. Assumes nothing.
use Rattle.buffer_pool.proofs.BackLaws.{no_head, head_short, head_cleared_lem}
use Rattle.buffer_pool.proofs.pool_back.try_clear_head.Goals as goal

pub returns-then-front_slots-lt1 : goal.returns-then-front_slots-lt1
returns-then-front_slots-lt1 c = search no_head

pub returns-then-start-n : goal.returns-then-start-n
returns-then-start-n c = search head_short

pub returns : goal.returns
returns c = search head_cleared_lem
