-- `event::filling` meets its contract. Assumes nothing.
use native.Mathlib.Omega.{arith}
use Rattle.std.proofs.lemmas.Bool.Decides.{nat_tests}
use Rattle.replay.specs.Run.{filling, fills}
use Rattle.replay.proofs.event.filling.Goals as goal

pub returns-then-e-r : goal.returns-then-e-r
unfolding filling fills
returns-then-e-r c = grind (arith, nat_tests)

pub returns : goal.returns
unfolding filling fills
returns c = grind (arith, nat_tests)
