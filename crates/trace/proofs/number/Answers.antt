-- `number` meets its contract. Four bytes add up to the number at that place. Assumes nothing.
use Rattle.trace.proofs.NumberLaws.{four}
use Rattle.trace.proofs.number.Goals as goal

pub returns : goal.returns
returns c = search four
