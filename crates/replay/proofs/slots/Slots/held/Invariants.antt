use mathlib.Core.Path.{◌≡◌}
use Prim.Native.Nat.{◌≤◌}
use Rattle.replay.specs.HeldBytes.{highest_end}
use Rattle.replay.proofs.slots.Slots.held.Given as goal

abbrev pub invariant-loop-i : goal.invariant-loop-i
invariant-loop-i l = (l.i ≤ l.self.r.now.slots) × (l.highest ≡ highest_end l.self.r.now l.i)
