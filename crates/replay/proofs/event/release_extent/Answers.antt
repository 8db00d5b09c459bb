-- `event::release_extent` meets its contract. Assumes nothing.
use native.Mathlib.Omega.{arith}
use Rattle.std.proofs.lemmas.Bool.Decides.{nat_tests}
use Rattle.replay.specs.Run.{release_extent}
use Rattle.replay.proofs.event.release_extent.Goals as goal

pub returns-then-a-ne0 : goal.returns-then-a-ne0
unfolding release_extent
returns-then-a-ne0 c = grind (arith, nat_tests)

pub returns : goal.returns
unfolding release_extent
returns c = grind (arith, nat_tests)
