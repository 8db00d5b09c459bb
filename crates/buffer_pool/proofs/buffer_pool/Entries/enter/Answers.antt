-- `buffer_pool::Entries::enter` meets its contract. Assumes nothing.
use native.Mathlib.Omega.{arith}
use Rattle.std.proofs.lemmas.Bool.Decides.{nat_tests}
use Rattle.buffer_pool.specs.Numbers.{entered}
use borrow.Author.Tests.{lt-ltb, le-leb}
use Rattle.buffer_pool.proofs.buffer_pool.Entries.enter.Goals as goal

pub returns-then-slot-lt1 : goal.returns-then-slot-lt1
unfolding entered
returns-then-slot-lt1 c = grind (arith, nat_tests)

pub returns : goal.returns
unfolding entered
returns c = search (le-leb, lt-ltb)
