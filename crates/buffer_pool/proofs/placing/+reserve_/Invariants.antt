-- The mode changes still allowed fall.
use Rattle.buffer_pool.proofs.placing.+reserve_.Given as goal

abbrev pub decreases-reserve_ : goal.decreases-reserve_
decreases-reserve_ l = l.left
