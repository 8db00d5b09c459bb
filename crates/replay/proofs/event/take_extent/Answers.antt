-- `event::take_extent` meets its contract. Assumes nothing.
use native.Mathlib.Omega.{arith}
use Rattle.std.proofs.lemmas.Bool.Decides.{nat_tests}
use Rattle.replay.specs.Run.{take_extent}
use Rattle.replay.proofs.event.take_extent.Goals as goal

pub returns-then-a-eq0 : goal.returns-then-a-eq0
unfolding take_extent
returns-then-a-eq0 c = grind (arith, nat_tests)

pub returns : goal.returns
unfolding take_extent
returns c = grind (arith, nat_tests)
