-- `text::Writer::put_hex` meets its contract. Assumes nothing.
use Rattle.replay.proofs.TextLaws.{hex_after}
use Rattle.replay.proofs.text.Writer.put_hex.Goals as goal

pub returns-clause-text : goal.returns-clause-text
returns-clause-text c = search hex_after
