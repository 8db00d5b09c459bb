-- `slice::SharedState::release` meets its contract. Assumes nothing.
use Rattle.laws.proofs.Words.{released_wide}
use borrow.Author.Rules.{rules}
use Rattle.buffer_pool.proofs.slice.SharedState.release.Goals as goal

pub returns : goal.returns
returns c = let a = c.args in rw c.mask.ensures (released_wide 16 a.self.slots a.self.live a.position c.requires.0 c.requires.1 (search rules) (search rules))
