-- `placing::reset_in_overflow` meets its contract. Assumes nothing.
use Rattle.buffer_pool.proofs.ResetLaws.{reset_stays, reset_empty, reset_brings}
use Rattle.buffer_pool.proofs.placing.reset_in_overflow.Goals as goal

pub returns-then-n-cursor : goal.returns-then-n-cursor
returns-then-n-cursor c = search reset_stays

pub returns-then-cursor-eq0 : goal.returns-then-cursor-eq0
returns-then-cursor-eq0 c = search reset_empty

pub returns : goal.returns
returns c = search reset_brings
