-- `is_right` meets its contract. Each arm knows the kind. Assumes nothing.
use native.Mathlib.Omega.{arith}
use Rattle.std.proofs.lemmas.Bool.Decides.{nat_tests}
use Rattle.trace.specs.Trace.{right, caller_right, has_caller}
use Rattle.trace.proofs.is_right.Goals as goal

pub returns-then-event-le-MOST_CALLER : goal.returns-then-event-le-MOST_CALLER
unfolding right caller_right has_caller
returns-then-event-le-MOST_CALLER c = grind (arith, nat_tests)

pub returns-else-event-le-MOST_CALLER : goal.returns-else-event-le-MOST_CALLER
unfolding right caller_right has_caller
returns-else-event-le-MOST_CALLER c = grind (arith, nat_tests)

pub returns-in-Ok-Release : goal.returns-in-Ok-Release
unfolding right caller_right has_caller
returns-in-Ok-Release c = grind (arith, nat_tests)

pub returns-in-Ok-Reserve : goal.returns-in-Ok-Reserve
unfolding right caller_right has_caller
returns-in-Ok-Reserve c = grind (arith, nat_tests)

pub returns-in-Err : goal.returns-in-Err
unfolding right caller_right has_caller
returns-in-Err c = grind (arith, nat_tests)
