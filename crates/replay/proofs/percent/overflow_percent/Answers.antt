-- `percent::overflow_percent` meets its contract. Assumes nothing.
-- The check finds this alone; without it no fact refuses the edit percent_counts_exchanged_code.
use Rattle.replay.proofs.percent.overflow_percent.Goals as goal

pub returns : goal.returns
returns c = c.percent.ensures
