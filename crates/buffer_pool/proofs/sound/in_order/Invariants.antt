use mathlib.Core.Path.{◌≡◌}
use Prim.Native.Nat.{◌-◌}
use Rattle.buffer_pool.specs.SlotPass.{ordered}
use Rattle.buffer_pool.proofs.sound.in_order.Given as goal

abbrev pub invariant-loop-i : goal.invariant-loop-i
invariant-loop-i l =
    ordered l.state.slots l.entries.starts l.entries.lengths l.state.live (l.last - l.first) l.first l.from l.to ≡ ordered l.state.slots l.entries.starts l.entries.lengths l.state.live (l.last - l.i) l.i l.end l.to
