-- `finished` meets its contract. Assumes nothing.
use Rattle.pool_bench.proofs.RoundLaws.{finished_as}
use Rattle.pool_bench.proofs.finished.Goals as goal

pub returns : goal.returns
returns c = search finished_as
