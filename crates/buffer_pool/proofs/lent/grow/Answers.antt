-- `lent::grow` meets its contract. Assumes nothing.
-- The check finds this alone; without it no fact refuses the edits growth_clears_kept_bytes and growth_not_kept.
use mathlib.Core.Path.{refl}
use Rattle.buffer_pool.proofs.lent.grow.Goals as goal

pub returns : goal.returns
returns c = record { value = refl; overflow_after = c.fill_zero.ensures }
