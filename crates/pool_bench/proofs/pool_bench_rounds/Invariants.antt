-- The rounds that are left, on the pool as it is, give what all rounds give on the pool at the loop's start.
use Rattle.std.proofs.Common.{◌≡◌, ◌-◌}
use Rattle.buffer_pool.specs.Moves.{memories}
use Rattle.pool_bench.specs.Rounds as spec
use Rattle.pool_bench.proofs.pool_bench_rounds.Given as goal

abbrev pub invariant-loop : goal.invariant-loop
invariant-loop l =
    spec.rounds l.len (l.rounds - l.counter) (spec.state l.p (memories l.pool l.overflow) l.destination)
    ≡ spec.rounds l.len l.rounds (spec.state l.initial.p (memories l.initial.pool l.initial.overflow) l.initial.destination)
