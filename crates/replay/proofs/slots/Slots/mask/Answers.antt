-- `slots::Slots::mask` meets its contract. Assumes nothing.
-- The check finds this alone, by the same facts of shifts; it stands here so that the bit is that of a word of any width (W-208).
use borrow.Author.Rules.{rules}
use Rattle.laws.proofs.Words.{mask_wide}
use Rattle.replay.proofs.slots.Slots.mask.Goals as goal

pub returns : goal.returns
returns c = mask_wide 16 c.args.self.r.now.slots c.args.p c.requires.0 c.requires.1 (search rules)
