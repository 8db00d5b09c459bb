use Rattle.laws.specs.Lists.{moved}
use mathlib.Core.Path.{◌≡◌}
use lib.ListN.{length}
use Rattle.buffer_pool.proofs.inner_memory.move_down.Given as goal

abbrev pub invariant-loop-i : goal.invariant-loop-i
invariant-loop-i l = (length l.m ≡ length l.initial.m) × (l.m ≡ moved l.initial.m l.start l.i l.to)
