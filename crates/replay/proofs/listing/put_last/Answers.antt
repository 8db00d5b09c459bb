-- `listing::put_last` meets its contract. Assumes nothing.
use Rattle.replay.proofs.LineLaws.{last_line_lem}
use Rattle.replay.proofs.listing.put_last.Goals as goal

pub returns-clause-text : goal.returns-clause-text
returns-clause-text c =
    last_line_lem _ _ _ _ c.overflow_percent-percent.ensures (rw c.new.ensures at c.held-held.ensures)
    c.put.ensures.text c.put_number.ensures.text c.put_number-2.ensures.text c.put_number-3.ensures.text c.put_number-4.ensures.text c.put-2.ensures.text
