-- `record::Record::resize` meets its contract. Assumes nothing.
-- The check finds this alone; without it no fact refuses the edit reservation_not_spent.
use mathlib.Core.Path.{refl}
use Rattle.buffer_pool_c.proofs.record.Record.resize.Goals as goal

pub returns-in-Ok : goal.returns-in-Ok
returns-in-Ok c = rw c.in-Ok.is refl
