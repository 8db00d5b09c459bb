-- `bytes` meets its contract. The part from the byte offset on is the file with that many bytes dropped, and none where the file ends before. Assumes nothing.
use Rattle.trace.proofs.ReadLaws.{no_bytes, no_place, some_bytes, some_place}
use Rattle.trace.proofs.bytes.Goals as goal

pub returns-then-file-at : goal.returns-then-file-at
returns-then-file-at c = search (no_bytes, no_place)

pub returns : goal.returns
returns c = search (some_bytes, some_place)
