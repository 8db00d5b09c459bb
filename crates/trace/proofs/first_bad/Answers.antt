-- `first_bad` meets its contract. While the events before index i are good, the first bad event is the first bad one from i on. Assumes nothing.
use borrow.Author.Rules.{rules}
use Rattle.trace.proofs.EventLaws.{good_more, bad_here, all_good}
use Rattle.trace.proofs.first_bad.Goals as goal

pub returns-then-not-is_good : goal.returns-then-not-is_good
returns-then-not-is_good c = search bad_here

pub loop-i-preserved : goal.loop-i-preserved
loop-i-preserved c = search (good_more, rules)

pub returns : goal.returns
returns c = search all_good
