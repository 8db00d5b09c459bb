-- `event::starts_of` meets its contract. Assumes nothing.
use native.Mathlib.Omega.{arith}
use Rattle.std.proofs.lemmas.Bool.Decides.{nat_tests}
use Rattle.replay.specs.Run.{starts_of}
use Rattle.replay.proofs.event.starts_of.Goals as goal

pub returns-then-in_pool-2 : goal.returns-then-in_pool-2
unfolding starts_of
returns-then-in_pool-2 c = grind (arith, nat_tests)

pub returns : goal.returns
unfolding starts_of
returns c = grind (arith, nat_tests)
