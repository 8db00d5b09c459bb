-- `buffer_pool::BufferPool::is_sound` meets its contract. Assumes nothing.
use Rattle.buffer_pool.proofs.GuardLaws.{record_sound}
use borrow.Author.Rules.{rules}
use Rattle.buffer_pool.proofs.buffer_pool.BufferPool.is_sound.Goals as goal

pub returns : goal.returns
returns c = search (record_sound, rules)
