-- `lent::handed_out` meets its contract. Assumes nothing.
-- The check finds this alone; without it no fact refuses the edits range_lent_again and take_halves_the_slots_code.
use Rattle.buffer_pool.proofs.lent.handed_out.Goals as goal

pub returns : goal.returns
returns c = cc
