-- `buffer_pool::BufferPool::take` meets its contract. Assumes nothing.
-- The check finds this alone; without it no fact refuses the edits handle_of_another_caller and length_set_as_start.
use Rattle.buffer_pool.proofs.TakeLaws.{take_left}
use borrow.Author.Rules.{rules}
use Rattle.buffer_pool.proofs.buffer_pool.BufferPool.take.Goals.{in-Ok-Copied, in-Ok-Pooled, in-Err}
use Rattle.buffer_pool.proofs.buffer_pool.BufferPool.take.Goals as goal

pub returns : goal.returns
returns c =
    elim c.match-take.branch [
      | in-Ok-Copied w ↦ search rules
      | in-Ok-Pooled w ↦
          let p = w.in-Ok-Pooled in
          rw (c.filled.ensures, w.answer-is, w.entries-is)
          (take_left c.args.self _ c.numbers-numbers.ensures.0 _ c.entries-entries.ensures _ _ _ _ _ _ _ p.is _ _ p.field-0-is c.take.ensures.value _ p.handle-is _ p.n-is _ w.enter.ensures)
      | in-Err w ↦ search rules
    ]
