-- `percent::even_neighbour` meets its contract. Assumes nothing.
use Rattle.replay.proofs.PercentLaws.{even, odd}
use Rattle.replay.proofs.percent.even_neighbour.Goals as goal

pub returns-then-q-eq0 : goal.returns-then-q-eq0
returns-then-q-eq0 c = search even

pub returns : goal.returns
returns c = search odd
