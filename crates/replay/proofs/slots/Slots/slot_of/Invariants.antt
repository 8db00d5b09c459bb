use Rattle.replay.specs.Slots.{slot_from}
use mathlib.Core.Path.{◌≡◌}
use Prim.Native.Nat.{◌+◌, ◌-◌, ◌≤◌}
use Rattle.replay.proofs.slots.Slots.slot_of.Given as goal

abbrev pub invariant-loop-i : goal.invariant-loop-i
invariant-loop-i l =
    (l.i ≤ l.self.r.now.slots)
    × (slot_from l.self.r.now.slots l.self.r.now.live l.self.r.now.callers l.self.r.now.serials l.caller l.serial 1 l.self.r.now.slots
    ≡ slot_from l.self.r.now.slots l.self.r.now.live l.self.r.now.callers l.self.r.now.serials l.caller l.serial (l.i + 1) (l.self.r.now.slots - l.i))
