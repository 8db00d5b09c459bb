-- `pool_bench_rounds` meets its contract. Assumes nothing.
use Rattle.pool_bench.proofs.RoundLaws.{round_less, serials_given, memories_left}
use Rattle.std.proofs.Common.{rules}
use Rattle.pool_bench.proofs.pool_bench_rounds.Goals as goal

pub loop-preserved : goal.loop-preserved
loop-preserved c = search (round_less, rules)

pub returns : goal.returns
returns c =
    record {
      value = search serials_given;
      memories_after = search memories_left;
    }
