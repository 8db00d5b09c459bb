-- `views::write` meets its contract. Assumes nothing.
use Rattle.buffer_pool.proofs.ViewLaws.{written_pool, written_overflow}
use Rattle.buffer_pool.proofs.views.write.Goals as goal

pub returns-in-Pool : goal.returns-in-Pool
returns-in-Pool c = search written_pool

pub returns-in-Overflow : goal.returns-in-Overflow
returns-in-Overflow c = search written_overflow
