-- The bytes read so far lie in the buffer, and each read that gives some leaves fewer to fill.
use Rattle.std.proofs.Common.{◌≡◌, ◌-◌, ◌≤◌, length}
use Rattle.poolreplay.proofs.read_input.Given as goal

abbrev pub invariant-loop-length : goal.invariant-loop-length
invariant-loop-length g l = (l.length ≤ length l.file) × (length l.file ≡ length l.initial.file)

abbrev pub decreases-loop-length : goal.decreases-loop-length
decreases-loop-length g l = length l.file - l.length
