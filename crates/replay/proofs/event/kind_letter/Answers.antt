-- `event::kind_letter` meets its contract. Assumes nothing.
use native.Mathlib.Omega.{arith}
use Rattle.std.proofs.lemmas.Bool.Decides.{nat_tests}
use Rattle.replay.specs.Run.{kind_letter}
use Rattle.replay.proofs.event.kind_letter.Goals as goal

pub returns-in-Reserve : goal.returns-in-Reserve
unfolding kind_letter
returns-in-Reserve c = grind (arith, nat_tests)

pub returns-in-Commit : goal.returns-in-Commit
unfolding kind_letter
returns-in-Commit c = grind (arith, nat_tests)

pub returns-in-Take : goal.returns-in-Take
unfolding kind_letter
returns-in-Take c = grind (arith, nat_tests)

pub returns-in-Truncate : goal.returns-in-Truncate
unfolding kind_letter
returns-in-Truncate c = grind (arith, nat_tests)

pub returns-in-Release : goal.returns-in-Release
unfolding kind_letter
returns-in-Release c = grind (arith, nat_tests)
