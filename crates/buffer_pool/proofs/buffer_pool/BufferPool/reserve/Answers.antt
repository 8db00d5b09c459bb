-- `buffer_pool::BufferPool::reserve` meets its contract. Assumes nothing.
-- The check finds this alone; without it no fact refuses the edit moves_before_four_code.
use Rattle.buffer_pool.proofs.LentLaws.{reserve_left}
use borrow.Author.Rules.{rules}
use Rattle.buffer_pool.proofs.buffer_pool.BufferPool.reserve.Goals.{in-Ok, in-Err}
use Rattle.buffer_pool.proofs.buffer_pool.BufferPool.reserve.Goals as goal

pub returns : goal.returns
returns c =
    elim c.match-reserve.branch [
      | in-Ok w ↦ search rules
      | in-Err w ↦ rw (c.filled.ensures, w.answer-is, w.entries-is) (reserve_left c.args.self _ c.numbers-numbers.ensures.0 _ c.entries-entries.ensures _ _ _ _ w.in-Err.ensures)
    ]
