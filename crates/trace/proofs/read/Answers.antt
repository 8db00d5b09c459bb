-- `read` meets its contract. Each answer knows the tests on the way to it: the header, then the first bad event. Assumes nothing.
use Rattle.trace.proofs.ReadLaws.{header_wrong, event_bad, accepted}
use Rattle.trace.proofs.read.Goals as goal

pub returns-then-not-is_headed : goal.returns-then-not-is_headed
returns-then-not-is_headed c = search header_wrong

pub returns-in-Some : goal.returns-in-Some
returns-in-Some c = search event_bad

pub returns : goal.returns
returns c = search accepted
