use Prim.Native.Nat.{◌+◌}
use mathlib.Core.Path.{◌≡◌}
use lib.ListN.{take}
use Rattle.replay.specs.Text.{Writes}
use Rattle.replay.proofs.text.Writer.put_some.Given as goal

abbrev pub invariant-loop-byte : goal.invariant-loop-byte
invariant-loop-byte l = record { at : l.self.at ≡ l.fn.self.at + l.byte-index; text : Writes l.fn.self l.self (take l.byte-index l.text) }
