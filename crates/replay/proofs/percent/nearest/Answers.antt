-- `percent::nearest` meets its contract. Assumes nothing.
use Rattle.replay.proofs.PercentLaws.{below_half, above_half, at_half}
use Rattle.replay.proofs.percent.nearest.Goals as goal

pub returns-then-twice-d : goal.returns-then-twice-d
returns-then-twice-d c = below_half _ _ c.if-twice-d.true

pub returns-then-d-twice : goal.returns-then-d-twice
returns-then-d-twice c = above_half _ _ c.if-twice-d.false c.if-d-twice.true

pub returns : goal.returns
returns c = at_half _ _ c.if-twice-d.false c.if-d-twice.false _ c.even_neighbour.ensures
