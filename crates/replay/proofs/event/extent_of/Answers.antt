-- `event::extent_of` meets its contract. Each arm knows the kind. Assumes nothing.
use native.Mathlib.Omega.{arith}
use Rattle.std.proofs.lemmas.Bool.Decides.{nat_tests}
use Rattle.replay.specs.Run.{extent_of}
use Rattle.replay.proofs.event.extent_of.Goals as goal

pub returns-in-Ok-Take : goal.returns-in-Ok-Take
unfolding extent_of
returns-in-Ok-Take c = grind (arith, nat_tests)

pub returns-in-Ok-Release : goal.returns-in-Ok-Release
unfolding extent_of
returns-in-Ok-Release c = grind (arith, nat_tests)

pub returns-in-Ok-Reserve : goal.returns-in-Ok-Reserve
unfolding extent_of
returns-in-Ok-Reserve c = grind (arith, nat_tests)

pub returns-in-Ok-Reserve-2 : goal.returns-in-Ok-Reserve-2
unfolding extent_of
returns-in-Ok-Reserve-2 c = grind (arith, nat_tests)
