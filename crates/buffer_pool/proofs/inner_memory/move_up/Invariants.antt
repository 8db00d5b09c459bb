use Rattle.laws.specs.Lists.{copied}
use mathlib.Core.Path.{◌≡◌}
use lib.ListN.{length}
use Prim.Native.Nat.{◌+◌, ◌-◌}
use Rattle.buffer_pool.proofs.inner_memory.move_up.Given as goal

abbrev pub invariant-loop-i : goal.invariant-loop-i
invariant-loop-i l = (length l.m ≡ length l.initial.m) × (l.m ≡ copied l.initial.m (l.start + l.i) (l.len - l.i) l.initial.m (l.to + l.i))
