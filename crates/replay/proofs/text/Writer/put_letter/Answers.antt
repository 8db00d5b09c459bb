-- `text::Writer::put_letter` meets its contract. Assumes nothing.
use Rattle.replay.proofs.TextLaws.{space_after}
use Rattle.replay.proofs.text.Writer.put_letter.Goals as goal

pub returns-clause-text : goal.returns-clause-text
returns-clause-text c = search space_after
