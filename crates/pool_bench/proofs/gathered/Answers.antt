-- `gathered` meets its contract. Assumes nothing.
use Rattle.pool_bench.proofs.RoundLaws.{gathered_as}
use Rattle.pool_bench.proofs.gathered.Goals as goal

pub returns : goal.returns
returns c = search gathered_as
