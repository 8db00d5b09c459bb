-- `round` meets its contract. Assumes nothing.
use Rattle.pool_bench.proofs.RoundLaws.{round_as}
use Rattle.pool_bench.proofs.round.Goals as goal

pub returns : goal.returns
returns c = search round_as
