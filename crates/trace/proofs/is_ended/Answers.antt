-- `is_ended` meets its contract. The two tests are those of the definition. Assumes nothing.
use native.Mathlib.Omega.{arith}
use Rattle.std.proofs.lemmas.Bool.Decides.{nat_tests}
use Rattle.trace.specs.Trace.{ended}
use Rattle.trace.proofs.is_ended.Goals as goal

pub returns-then-file-le-FILE_LIMIT : goal.returns-then-file-le-FILE_LIMIT
unfolding ended
returns-then-file-le-FILE_LIMIT c = grind (arith, nat_tests)

pub returns-else-file-le-FILE_LIMIT : goal.returns-else-file-le-FILE_LIMIT
unfolding ended
returns-else-file-le-FILE_LIMIT c = grind (arith, nat_tests)
