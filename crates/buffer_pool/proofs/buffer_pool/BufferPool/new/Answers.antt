-- `buffer_pool::BufferPool::new` meets its contract. Assumes nothing.
use Rattle.buffer_pool.proofs.CallLaws.{new_other_count, new_pool_long, new_overflow_long, new_done_lem}
use Rattle.buffer_pool.proofs.buffer_pool.BufferPool.new.Goals as goal

pub returns-then-not-is_count : goal.returns-then-not-is_count
returns-then-not-is_count c = search new_other_count

pub returns-then-capacity-gt-BYTE_LIMIT : goal.returns-then-capacity-gt-BYTE_LIMIT
returns-then-capacity-gt-BYTE_LIMIT c = search new_pool_long

pub returns-then-length-gt-BYTE_LIMIT : goal.returns-then-length-gt-BYTE_LIMIT
returns-then-length-gt-BYTE_LIMIT c = search new_overflow_long

pub returns : goal.returns
returns c = search new_done_lem
