-- `lent::taken_mode` meets its contract. Assumes nothing.
-- The check finds this alone; without it no fact refuses the edit front_grows_over_the_pool.
use mathlib.Core.Path.{refl}
use Rattle.buffer_pool.proofs.lent.taken_mode.Goals as goal

pub returns-in-Front : goal.returns-in-Front
returns-in-Front c = rw c.in-Front.is refl
