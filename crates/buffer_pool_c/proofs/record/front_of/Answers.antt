-- `record::front_of` meets its contract. Assumes nothing.
-- The check finds this alone; without it no fact refuses the edit front_lost.
use mathlib.Core.Path.{refl}
use Rattle.buffer_pool_c.proofs.record.front_of.Goals as goal

pub returns-in-Front : goal.returns-in-Front
returns-in-Front c = rw c.in-Front.is refl
