-- `percent::percent` meets its contract. Assumes nothing.
use Rattle.replay.proofs.PercentLaws.{no_takes, of_takes}
use Rattle.replay.proofs.percent.percent.Goals as goal

pub returns-then-all-eq0 : goal.returns-then-all-eq0
returns-then-all-eq0 c = no_takes _ _ c.if-all-eq0.true

pub returns : goal.returns
returns c = of_takes _ _ c.if-all-eq0.false _ c.nearest.ensures
