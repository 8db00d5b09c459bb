-- `slots::Slots::bears` meets its contract. Assumes nothing.
use native.Mathlib.Omega.{arith}
use Rattle.std.proofs.lemmas.Bool.Decides.{nat_tests}
use Rattle.replay.specs.Slots.{bears}
use Rattle.replay.proofs.slots.Slots.bears.Goals as goal

pub returns-then-self-p : goal.returns-then-self-p
unfolding bears
returns-then-self-p c = grind (arith, nat_tests)

pub returns-else-self-p : goal.returns-else-self-p
unfolding bears
returns-else-self-p c = grind (arith, nat_tests)
