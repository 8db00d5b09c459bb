-- `text::Writer::put_some` meets its contract. The first bytes of the text are written, as many as were taken. Assumes nothing.
use native.Mathlib.Omega.{arith}
use Rattle.replay.proofs.TextLaws.{written_none, some_more}
use Rattle.replay.proofs.text.Writer.put_some.Goals as goal

pub loop-byte-init : goal.loop-byte-init
loop-byte-init c = record { at = omega arith; text = written_none c.args.self.now }

pub loop-byte-preserved : goal.loop-byte-preserved
loop-byte-preserved c = record { at = omega arith; text = search some_more }
