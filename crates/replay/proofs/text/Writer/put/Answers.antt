-- `text::Writer::put` meets its contract. A store past the end changes nothing. Assumes nothing.
use mathlib.Core.Path.{refl}
use Rattle.replay.proofs.TextLaws.{byte_in, byte_past}
use Rattle.replay.proofs.text.Writer.put.Goals as goal
use Rattle.replay.proofs.text.Writer.put.Goals.{then-self, else-self}

pub returns-clause-text : goal.returns-clause-text
returns-clause-text c =
    let a = c.args.self.now in
    elim c.if-self.branch [
      | then-self w ↦ rw w.self-is (record { same_output = refl; after = byte_in a.out.now a.at c.args.byte })
      | else-self w ↦ rw w.self-is (record { same_output = refl; after = byte_past a.out.now a.at c.args.byte w.if-self.false })
    ]
