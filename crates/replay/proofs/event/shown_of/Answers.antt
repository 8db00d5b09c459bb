-- `event::shown_of` meets its contract. Assumes nothing.
use borrow.Author.Rules.{rules}
use Rattle.replay.proofs.EventLaws.{shown_as}
use Rattle.replay.proofs.event.shown_of.Goals as goal

pub returns : goal.returns
returns c = search (shown_as, rules)
