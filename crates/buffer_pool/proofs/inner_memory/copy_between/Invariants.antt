use Rattle.laws.specs.Lists.{copied}
use mathlib.Core.Path.{◌≡◌}
use lib.ListN.{length}
use Rattle.buffer_pool.proofs.inner_memory.copy_between.Given as goal

abbrev pub invariant-loop-i : goal.invariant-loop-i
invariant-loop-i l = (length l.dst ≡ length l.initial.dst) × (l.dst ≡ copied l.src l.start l.i l.initial.dst l.to)
