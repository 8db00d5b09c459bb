-- `is_in_order` meets its contract. The two tests are those of the definition. Assumes nothing.
use native.Mathlib.Omega.{arith}
use Rattle.std.proofs.lemmas.Bool.Decides.{nat_tests}
use Rattle.trace.specs.Trace.{in_order}
use Rattle.trace.proofs.is_in_order.Goals as goal

pub returns-then-number-event_place : goal.returns-then-number-event_place
unfolding in_order
returns-then-number-event_place c = grind (arith, nat_tests)

pub returns-else-number-event_place : goal.returns-else-number-event_place
unfolding in_order
returns-else-number-event_place c = grind (arith, nat_tests)
