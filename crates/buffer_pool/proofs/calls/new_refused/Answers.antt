-- `calls::new_refused` meets its contract. Assumes nothing.
-- The check finds this alone; without it no fact refuses the edits refused_new_of_sixteen_slots_code and refused_new_with_a_length_code.
use Rattle.buffer_pool.proofs.calls.new_refused.Goals as goal

pub returns : goal.returns
returns c = cc
