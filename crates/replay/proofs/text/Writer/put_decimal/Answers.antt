-- `text::Writer::put_decimal` meets its contract. The digits of io are the fewest that hold n: those of the definition. Assumes nothing.
use Rattle.replay.proofs.Digits.{digits_are}
use Rattle.replay.proofs.TextLaws.{decimal_after}
use Rattle.replay.proofs.text.Writer.put_decimal.Goals as goal

pub returns-clause-text : goal.returns-clause-text
returns-clause-text c = search (decimal_after, digits_are)
