use Prim.Native.Nat.{◌-◌, ◌≤◌}
use mathlib.Core.Path.{◌≡◌}
use Rattle.trace.specs.Trace.{first_bad}
use Rattle.trace.proofs.first_bad.Given as goal

abbrev pub invariant-loop-i : goal.invariant-loop-i
invariant-loop-i l = (l.i ≤ l.events) × (first_bad l.file 0 l.events ≡ first_bad l.file l.i (l.events - l.i))
