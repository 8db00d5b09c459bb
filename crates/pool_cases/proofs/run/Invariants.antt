-- Each list begins after the one before.
use Rattle.std.proofs.Common.{length, ◌-◌}
use Rattle.pool_cases.proofs.run.Given as goal

abbrev pub decreases-loop-at : goal.decreases-loop-at
decreases-loop-at g l = length l.file - l.at
